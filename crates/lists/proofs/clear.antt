-- What the proof of `clear_from` uses: the last 1 of some groups, and the loop over words from the end.
mod Ends
