-- What the proof of the room uses: the numbers within their limits, and either way out.
mod Exits
