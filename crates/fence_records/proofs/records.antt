-- What the answers of the functions over fence records use: one round of making them anew and of comparing them.
mod Rounds
