-- Equations and inequalities of polynomials, solved by computing.
pub mod Ring
pub mod RingNat
pub mod RingInt
pub mod Certificates
