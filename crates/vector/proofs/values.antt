-- Vectors of exact values: their components' sizes, squared lengths and dot products.
pub mod VectorFits
pub mod FiniteVectors
pub mod ComponentSizes
pub mod SignedVectors
pub mod ExactDots
pub mod CombinationLaws
