use Rattle.std.proofs.Common.{refl}
use Rattle.nesl_infer.specs.References.{names_of}
use Rattle.nesl_infer.proofs.Referred.{typed-same}
use Rattle.nesl_infer.proofs.laws.typings_depend_on_references.Goals as goal

pub returns : goal.returns
returns c = λ N M of limit e sc t g h. typed-same N M of limit e (names_of sc) sc t refl g h
