pub mod ParityLemmas
