pub mod HostSimulations
pub mod StatusAnswers
pub mod StatusLines
