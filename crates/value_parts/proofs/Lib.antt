pub mod RowsNamed
