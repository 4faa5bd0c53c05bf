-- The lemmas of this crate, by subject.
pub mod NextLink
pub mod Offered
pub mod Turns
mod Rows
pub mod Tokens
pub mod Hops
pub mod HopSteps
pub mod Flows
pub mod Courses
pub mod Requests
pub mod Confirms
pub mod OpenLines
pub mod DataCourses
pub mod Sends
pub mod Routes
pub mod Outcomes
pub mod Marks
pub mod Releases
pub mod Freed
pub mod Released
pub mod Carrying
pub mod Reaching
