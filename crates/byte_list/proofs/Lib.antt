pub mod ByteLaws
pub mod RangeLaws
pub mod PutLaws
pub mod PartLaws
pub mod FieldLaws
pub mod XorLaws
