-- One block of a sheet (document 01, "Sheet"): the rules on it; and tests of things numbered from 0.
pub mod Every
pub mod Rules
