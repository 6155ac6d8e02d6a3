pub mod RefusalLength
