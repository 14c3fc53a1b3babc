pub mod SoundBanks
pub mod SoundDescription
pub mod SoundKeys
pub mod SoundTables
pub mod TableKeys
pub mod Documents
