use Rattle.std.proofs.Common.{◌≡◌, List, length, subst, sym}
use Rattle.std.specs.Prelude.{All}
use Rattle.std.specs.List.{flat_map}
use Rattle.nesl_forms.specs.declared.text.Stretch.{Stretch}
use Rattle.nesl_forms.specs.Stretches.{Follow, IsRight, bytes_of}
use Rattle.nesl_forms.proofs.Tiles.{cut_follows, cut_joins, cut_right}
use Rattle.nesl_forms.proofs.text.cut.Goals as goal

pub returns-clause-follow : goal.returns-clause-follow
returns-clause-follow c =
    subst (λ (ss : List Stretch). Follow 0 ss (length c.args.text.now)) (sym c.in_ok-stretches.ensures) (cut_follows c.args.text.now)

pub returns-clause-joined : goal.returns-clause-joined
returns-clause-joined c =
    subst (λ (ss : List Stretch). flat_map (bytes_of c.args.text.now) ss ≡ c.args.text.now) (sym c.in_ok-stretches.ensures) (cut_joins c.args.text.now)

pub returns-clause-right : goal.returns-clause-right
returns-clause-right c =
    subst (λ (ss : List Stretch). All (IsRight c.args.text.now) ss) (sym c.in_ok-stretches.ensures) (cut_right c.args.text.now)
