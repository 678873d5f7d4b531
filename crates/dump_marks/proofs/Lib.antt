pub mod EachRow
