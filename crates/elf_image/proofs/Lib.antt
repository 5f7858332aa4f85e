pub mod HeaderLemmas
pub mod FaultLemmas
pub mod ReaderLemmas
pub mod WriterLemmas
pub mod ReadBack
pub mod Accepted
pub mod RoundTrip
pub mod Loadable
