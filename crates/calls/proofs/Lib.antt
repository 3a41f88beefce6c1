pub mod OneAnswer
pub mod CallAgain
pub mod Doors
