pub mod FieldForm
pub mod StepForm
