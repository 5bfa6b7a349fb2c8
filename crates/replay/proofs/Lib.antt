pub mod SomeText
