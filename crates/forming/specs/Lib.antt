pub mod Signs
pub mod Systems
pub mod Components
pub mod Works
pub mod Props
