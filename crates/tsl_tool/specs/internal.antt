pub mod TaskRanges
