pub mod RecoversOnce
pub mod StandsBy
pub mod LuckyCrashes
pub mod LogForms
pub mod LivesOverBytes
pub mod WrittenItems
pub mod OpeningsOverBytes
pub mod OpeningFiles
