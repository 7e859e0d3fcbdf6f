pub mod Lines
pub mod Graded
pub mod Outcomes
pub mod Grades
