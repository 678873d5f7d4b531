pub mod SoundLists
