pub mod Sip
