pub mod Rows
pub mod Laws
pub mod ColumnRows
pub mod IntelTable
