pub mod SampleSteps
