pub mod Books
pub mod BooksLaws
