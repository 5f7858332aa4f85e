pub mod LateLemmas
