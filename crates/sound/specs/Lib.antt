-- What a bench holds, and when it is sound. Above: sound_test, the entries, isolation. Below: session, segment.
pub mod Below
pub mod Bench
pub mod Sound
