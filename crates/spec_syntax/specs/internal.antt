pub mod Forms
pub mod InnerView
