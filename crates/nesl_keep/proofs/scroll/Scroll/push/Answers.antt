use Rattle.std.proofs.Common.{◌≡◌, ◌+◌, ◌++◌, [], ◌∷◌, length, inl, ◌∙◌, ap, subst, arith}
use Rattle.nesl_keep.specs.Device.{Holds, Torn}
use Rattle.nesl_keep.specs.Scroll.{kept, at_rest, IsBeforeOrAfter}
use Rattle.nesl_keep.proofs.Lines.{are_more}
use Rattle.nesl_keep.proofs.Moments.{weaker, chains}
use Rattle.nesl_keep.proofs.Crash.{length-at_rest, length-staged, length-blocks_more, written_after, written_gate, torn_after, torn_gate, settled}
use Rattle.nesl_keep.proofs.scroll.Scroll.push.Goals as goal

pub write_through-requires-clause-at : goal.write_through-requires-clause-at
write_through-requires-clause-at g c =
    let s = c.requires.settled in
    omega (arith, ap length s.file, length-at_rest (kept (g.D.Device.seen c.args.self.now.device)) c.args.line.now c.args.self.now.end s.end)

-- the first write leaves the lines as they were
pub returns-in_err-write_through-clause-any_moment : goal.returns-in_err-write_through-clause-any_moment
returns-in_err-write_through-clause-any_moment g c =
    let s = c.requires.settled in
    let old = c.args.self.now.device in
    let lines = kept (g.D.Device.seen old) in
    weaker g.D.Device.moment g.D.Device.left_since old c.write_through.new.device (Torn (c.args.self.now.end + 1) (length c.deref.result.now) (g.D.Device.seen old)) (IsBeforeOrAfter lines c.args.line.now) c.write_through.ensures.any_moment
    (λ f torn. inl (torn_after lines c.args.line.now c.args.self.now.end s.end (length c.deref.result.now) f s.lines (subst (λ d. Torn (c.args.self.now.end + 1) (length c.deref.result.now) d f) s.file torn)))

pub write_through-requires-2-clause-at : goal.write_through-requires-2-clause-at
write_through-requires-2-clause-at g c =
    let s = c.requires.settled in
    let lines = kept (g.D.Device.seen c.args.self.now.device) in
    let bytes_are : c.deref.result.now ≡ c.args.line.now ++ 10 ∷ 46 ∷ [] = c.deref.ensures.value ∙ c.in_ok-fill_block.ensures in
    let holds = subst (λ b. Holds (at_rest lines) (c.args.self.now.end + 1) b (g.D.Device.seen c.write_through.new.device)) bytes_are (subst (λ f. Holds f (c.args.self.now.end + 1) c.deref.result.now (g.D.Device.seen c.write_through.new.device)) s.file c.in_ok-write_through.ensures.written) in
    let is_staged = written_after lines c.args.line.now c.args.self.now.end s.end _ holds in
    omega (arith, ap length is_staged, length-staged lines c.args.line.now c.args.self.now.end s.end)

-- the second leaves them with the new line or without
pub returns-in_err-write_through-2-clause-any_moment : goal.returns-in_err-write_through-2-clause-any_moment
returns-in_err-write_through-2-clause-any_moment g c =
    let s = c.requires.settled in
    let old = c.args.self.now.device in
    let lines = kept (g.D.Device.seen old) in
    let line = c.args.line.now in
    let end = c.args.self.now.end in
    let P = IsBeforeOrAfter lines line in
    let first = weaker g.D.Device.moment g.D.Device.left_since old c.write_through.new.device (Torn (end + 1) (length c.deref.result.now) (g.D.Device.seen old)) P c.write_through.ensures.any_moment
    (λ f torn. inl (torn_after lines line end s.end (length c.deref.result.now) f s.lines (subst (λ d. Torn (end + 1) (length c.deref.result.now) d f) s.file torn))) in
    let bytes_are : c.deref.result.now ≡ c.args.line.now ++ 10 ∷ 46 ∷ [] = c.deref.ensures.value ∙ c.in_ok-fill_block.ensures in
    let holds = subst (λ b. Holds (at_rest lines) (end + 1) b (g.D.Device.seen c.write_through.new.device)) bytes_are (subst (λ f. Holds f (end + 1) c.deref.result.now (g.D.Device.seen c.write_through.new.device)) s.file c.in_ok-write_through.ensures.written) in
    let is_staged = written_after lines line end s.end _ holds in
    chains g.D.Device.moment g.D.Device.left_since old c.write_through.new.device c.write_through-2.new.device P first
    (weaker g.D.Device.moment g.D.Device.left_since c.write_through.new.device c.write_through-2.new.device (Torn end 1 (g.D.Device.seen c.write_through.new.device)) P c.write_through-2.ensures.any_moment
    (λ f torn. torn_gate lines line end s.end f s.lines c.requires.line (subst (λ d. Torn end 1 d f) is_staged torn)))

pub returns-clause-any_moment : goal.returns-clause-any_moment
returns-clause-any_moment g c =
    let s = c.requires.settled in
    let old = c.args.self.now.device in
    let lines = kept (g.D.Device.seen old) in
    let line = c.args.line.now in
    let end = c.args.self.now.end in
    let P = IsBeforeOrAfter lines line in
    let first = weaker g.D.Device.moment g.D.Device.left_since old c.write_through.new.device (Torn (end + 1) (length c.deref.result.now) (g.D.Device.seen old)) P c.write_through.ensures.any_moment
    (λ f torn. inl (torn_after lines line end s.end (length c.deref.result.now) f s.lines (subst (λ d. Torn (end + 1) (length c.deref.result.now) d f) s.file torn))) in
    let bytes_are : c.deref.result.now ≡ c.args.line.now ++ 10 ∷ 46 ∷ [] = c.deref.ensures.value ∙ c.in_ok-fill_block.ensures in
    let holds = subst (λ b. Holds (at_rest lines) (end + 1) b (g.D.Device.seen c.write_through.new.device)) bytes_are (subst (λ f. Holds f (end + 1) c.deref.result.now (g.D.Device.seen c.write_through.new.device)) s.file c.in_ok-write_through.ensures.written) in
    let is_staged = written_after lines line end s.end _ holds in
    chains g.D.Device.moment g.D.Device.left_since old c.write_through.new.device c.write_through-2.new.device P first
    (weaker g.D.Device.moment g.D.Device.left_since c.write_through.new.device c.write_through-2.new.device (Torn end 1 (g.D.Device.seen c.write_through.new.device)) P c.write_through-2.ensures.any_moment
    (λ f torn. torn_gate lines line end s.end f s.lines c.requires.line (subst (λ d. Torn end 1 d f) is_staged torn)))

-- and then the line is on the disk
pub returns-clause-added : goal.returns-clause-added
returns-clause-added g c =
    let s = c.requires.settled in
    let lines = kept (g.D.Device.seen c.args.self.now.device) in
    let line = c.args.line.now in
    let end = c.args.self.now.end in
    let bytes_are : c.deref.result.now ≡ c.args.line.now ++ 10 ∷ 46 ∷ [] = c.deref.ensures.value ∙ c.in_ok-fill_block.ensures in
    let holds = subst (λ b. Holds (at_rest lines) (end + 1) b (g.D.Device.seen c.write_through.new.device)) bytes_are (subst (λ f. Holds f (end + 1) c.deref.result.now (g.D.Device.seen c.write_through.new.device)) s.file c.in_ok-write_through.ensures.written) in
    let is_staged = written_after lines line end s.end _ holds in
    let holds_gate = subst (λ f. Holds f end (62 ∷ []) (g.D.Device.seen c.write_through-2.new.device)) is_staged c.in_ok-write_through-2.ensures.written in
    let is_open = written_gate lines line end s.end _ holds_gate in
    settled _ _ _ _ (are_more lines line s.lines c.requires.line) is_open (omega (arith, length-blocks_more lines line end s.end)) c.in_ok-write_through-2.ensures.durable
