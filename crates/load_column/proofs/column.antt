-- What the proofs of a load's steps use: the bytes of a column.
mod Bytes
