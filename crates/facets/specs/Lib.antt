pub mod Facets
