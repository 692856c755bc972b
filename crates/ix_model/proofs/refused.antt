pub mod Refusing
pub mod Seeing
pub mod SeeingRows
pub mod RefusedSteps
pub mod Asking
pub mod AskingRows
pub mod Lacking
