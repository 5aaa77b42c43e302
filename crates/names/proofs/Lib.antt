-- What the flat form that was read tells of a text's tree, and the reader's array of a command's name.
pub mod CodesRead
pub mod NameArrays
