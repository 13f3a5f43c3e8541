pub mod Cases
pub mod PrintedTasks
