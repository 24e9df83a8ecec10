-- M: a direction reflected in another has a direction. Assumes nothing.
use lib.Dec.{lit≤}
use Rattle.vector.specs.Optics.{reflect}
use Rattle.vector.specs.NumericLaws.{LawM}
use Rattle.vector.proofs.values.VectorFits.{reflected_vector}
use Rattle.vector.proofs.values.SignedVectors.{exact_of, reads_of}
use Rattle.vector.proofs.rays.ReflectRoundings.{reflected, reflected_reads, reflected_norm}
use Rattle.vector.proofs.units.NearUnitLaws.{never_refused}

pub law_m : LawM
law_m a b da db =
    let ra = reads_of a da.values da.numbers in
    let rb = reads_of b db.values db.numbers in
    never_refused (reflect a b) (reflected a b (exact_of a) (exact_of b) ra rb da.near db.near) 440 (lit≤ tt)
    (reflected_reads a b (exact_of a) (exact_of b) ra rb da.near db.near) (reflected_norm a b (exact_of a) (exact_of b) ra rb da.near db.near) (reflected_vector a b)
