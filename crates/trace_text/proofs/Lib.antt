pub mod TraceExamples
