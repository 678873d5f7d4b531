-- What the proofs of Dump's part use: the loop over a span, the words that cover its groups, and the span of a block.
mod InBlock
mod Reaching
mod Spanning
