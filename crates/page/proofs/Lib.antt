-- The laws of lines and pages, the theorem, and the worked examples.
pub mod PageStores
pub mod Fields
pub mod Pages
pub mod Printable
pub mod IdFields
pub mod Theorem
pub mod ExampleRows
