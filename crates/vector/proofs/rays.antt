-- Laws M and R: reflected and refracted directions.
pub mod ReflectRoundings
pub mod ReflectLaws
pub mod RefractCertificates
pub mod RefractNumbers
pub mod RefractComponents
pub mod RefractRoundings
pub mod RefractLaws
pub mod NeverZeroLaws
