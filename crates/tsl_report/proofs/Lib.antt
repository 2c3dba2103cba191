pub mod FaultExamples
