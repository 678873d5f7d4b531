-- What the proofs of the functions on eight rows use: that their arithmetic is right, computed for all eight rows there are.
mod Computed
