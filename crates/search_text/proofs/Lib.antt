pub mod SearchExamples
