pub mod Apart
pub mod Cut
pub mod From
pub mod At
