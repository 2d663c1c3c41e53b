-- The definitions that the contracts cite, and the laws on them that other crates use.
pub mod Range
pub mod KindBytes
pub mod Kinds
pub mod OpBytes
pub mod StepOps
pub mod KindLaws
pub mod Literals
pub mod Write
pub mod Records
pub mod BigEndian
pub mod References
pub mod Steps
pub mod Answers
pub mod AnswerLaws
