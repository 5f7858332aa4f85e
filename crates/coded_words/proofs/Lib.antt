pub mod ArrayLemmas
pub mod PastLemmas
pub mod AnswerLemmas
