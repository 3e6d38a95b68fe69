-- What stays known while a guest goes on: the marks of handles, and what was copied between two network sockets.
use Rattle.std.proofs.Common.{◌≡◌, ◌∙◌, ℕ, ◌+◌, ◌-◌, ◌^◌, min, refl, sym, ap, subst, List, [], ◌∷◌, ◌++◌, length, append-nil, append_assoc, length-append, Option, Some, arith}
use Rattle.wasi_world.specs.declared.ids.OpId.{OpId}
use Rattle.wasi_world.specs.declared.call.Call.TheVariants.{Made}
use Rattle.wasi_world.specs.declared.call.Entry.{Entry}
use Rattle.wasi_world.specs.declared.call.HandleKind.TheVariants.{Tcp2}
use Rattle.wasi_world.specs.declared.call.Told.{Told}
use Rattle.wasi_world.specs.declared.outcome.WasiSocketsCtx.{WasiSocketsCtx}
use Rattle.wasi_world.specs.Asks.{Give}
use Rattle.wasi_tcp.specs.Taken.{IsFrontOf, taken_by, taken_in}
use Rattle.wasi_walks.proofs.Lists.{has_front}
use Rattle.wasi_walks.proofs.licence.Runs.{begun_licensed}
use Rattle.wasi_walks.specs.Licence.{Has, IsLicensed, IsSide, MarksNoSocket, entry}
use Rattle.std.proofs.Common.{inl}
use Rattle.wasi_laws.proofs.permits.Runs.{runs_let}
use Rattle.wasi_causes.specs.ToldBytes.{told_by, told_in}
use Rattle.wasi_relay.specs.declared.pair.DirEnd.{DirEnd}
use Rattle.wasi_relay.specs.declared.pair.DirEnd.TheVariants.{Open, Clean, Broken}
use Rattle.wasi_relay.specs.declared.pair.Flow.{Flow}
use Rattle.wasi_relay.specs.declared.pair.Pair.{Pair}
use Rattle.wasi_relay.specs.declared.pair.Stage.{Stage}
use Rattle.wasi_relay.specs.declared.pair.Stage.TheVariants.{Connecting, Connected, Over}
use Rattle.wasi_relay.specs.Copied.{AllCopied, IsCopied, PairIsCopied}
use Rattle.wasi_relay.proofs.Past.{Past}

-- == along two logs
pub told_append : (side : OpId) (es fs : List Entry) → told_in side (es ++ fs) ≡ told_in side es ++ told_in side fs
told_append side [] fs = refl
told_append side (e ∷ es) fs = ap (λ (more : List ℕ). told_by side e.call e.answer ++ more) (told_append side es fs) ∙ sym (append_assoc (told_by side e.call e.answer) (told_in side es) (told_in side fs))

taken_append : (side : OpId) (es fs : List Entry) → taken_in side (es ++ fs) ≡ taken_in side es ++ taken_in side fs
taken_append side [] fs = refl
taken_append side (e ∷ es) fs = ap (λ (more : List ℕ). taken_by side e.call e.answer ++ more) (taken_append side es fs) ∙ sym (append_assoc (taken_by side e.call e.answer) (taken_in side es) (taken_in side fs))

pub side_more : (log more : List Entry) (handle : ℕ) (side : OpId) → IsSide log handle side → IsSide (log ++ more) handle side
side_more log more handle side s = record { op = s.op; kind = s.kind; parent = s.parent; told = s.told; mark = has_front log more _ s.mark }

-- The handle was marked as that of a TCP socket, with this network socket.
pub record IsTcp (log : List Entry) (handle : ℕ) (side : OpId) : Type 0 where
  pub op : OpId
  pub parent : Option ℕ
  pub told : Told
  pub mark : Has log (entry op (Made handle Tcp2 parent (Some side)) told)

pub tcp_more : (log more : List Entry) (handle : ℕ) (side : OpId) → IsTcp log handle side → IsTcp (log ++ more) handle side
tcp_more log more handle side s = record { op = s.op; parent = s.parent; told = s.told; mark = has_front log more _ s.mark }

pub tcp_side : (log : List Entry) (handle : ℕ) (side : OpId) → IsTcp log handle side → IsSide log handle side
tcp_side log handle side s = record { op = s.op; kind = Tcp2; parent = s.parent; told = s.told; mark = s.mark }

pub tcp_marked : (log : List Entry) (handle : ℕ) (side : OpId) → IsTcp log handle side → MarksNoSocket log side → ⊥
tcp_marked log handle side s n = n s.op handle Tcp2 s.parent s.told (inl refl) s.mark

pub marks_fewer : (log more : List Entry) (side : OpId) → MarksNoSocket (log ++ more) side → MarksNoSocket log side
marks_fewer log more side n = λ o handle name parent told is i. n o handle name parent told is (has_front log more _ i)

-- == a direction
-- up to the largest number
abbrev pub capped : ℕ → ℕ
capped n = min n (2 ^ 64 - 1)

-- by its end: while it is open, and where it ended clean, all that was told was let write; clean, it was taken too
abbrev pub FlowAt : DirEnd → List ℕ → List ℕ → List ℕ → ℕ → Type 0
FlowAt Open told may taken bytes = (may ≡ told) × (bytes ≡ capped (length told))
FlowAt Clean told may taken bytes = (may ≡ told) × (bytes ≡ capped (length told)) × (taken ≡ told)
FlowAt Broken told may taken bytes = IsFrontOf may told

-- what is added to all is nothing
front_whole : (all more rest : List ℕ) → (all ++ more) ++ rest ≡ all → all ++ more ≡ all
front_whole all more rest e = ap (λ (x : List ℕ). all ++ x) (none more (omega (arith, size))) ∙ append-nil all
  where
    size : length all + length more + length rest ≡ length all
    size = let p : length ((all ++ more) ++ rest) ≡ length all = ap (λ (x : List ℕ). length x) e in let q = length-append (all ++ more) rest in let r = length-append all more in omega (arith, p, q, r)

    none : (x : List ℕ) → length x ≡ 0 → x ≡ []
    none [] z = refl
    none (y ∷ x) z = absurd (omega (arith, z))

front_front : (x y z : List ℕ) → IsFrontOf x y → IsFrontOf y z → IsFrontOf x z
front_front x y z a b = (a.0 ++ b.0, sym (append_assoc x a.0 b.0) ∙ (ap (λ (l : List ℕ). l ++ b.0) a.1 ∙ b.1))

-- == pairs of network sockets
-- it is none of these
abbrev pub Away : OpId → List (OpId × OpId) → Type 0
Away side [] = Unit {0}
Away side (x ∷ xs) = (x.0 ≡ side → ⊥) × (x.1 ≡ side → ⊥) × Away side xs

-- no two are the same
abbrev pub Distinct : List (OpId × OpId) → Type 0
Distinct [] = Unit {0}
Distinct (x ∷ xs) = (x.0 ≡ x.1 → ⊥) × Away x.0 xs × Away x.1 xs × Distinct xs

module _ (contexts : List WasiSocketsCtx) where
  pub licensed : (past : Past contexts) → IsLicensed contexts past.steps past.log []
  licensed past = begun_licensed contexts past.steps past.log (Give (past.replies, past.state)) past.ran

  pub front : (past : Past contexts) (side : OpId) → IsFrontOf (taken_in side past.log) (past.may side)
  front past side = runs_let contexts side past.steps past.log (past.may side) past.state (past.did side)

  abbrev pub FlowIs : Past contexts → OpId → OpId → Flow → Type 0
  FlowIs past from to flow = FlowAt flow.end (told_in from past.log) (past.may to) (taken_in to past.log) flow.bytes

  -- The log has more; these network sockets told nothing more, and nothing more was let write to these.
  pub record Grows (past now : Past contexts) (Told Let : OpId → Type 0) : Type 0 where
    pub more : List Entry
    pub log : now.log ≡ past.log ++ more
    pub told : (s : OpId) → Told s → told_in s now.log ≡ told_in s past.log
    pub may : (s : OpId) → Let s → now.may s ≡ past.may s

  module _ {past now : Past contexts} {Told Let : OpId → Type 0} (g : Grows past now Told Let) where
    pub side_grows : (handle : ℕ) (side : OpId) → IsSide past.log handle side → IsSide now.log handle side
    side_grows handle side s = subst (λ (log : List Entry). IsSide log handle side) (sym g.log) (side_more past.log g.more handle side s)

    pub tcp_grows : (handle : ℕ) (side : OpId) → IsTcp past.log handle side → IsTcp now.log handle side
    tcp_grows handle side s = subst (λ (log : List Entry). IsTcp log handle side) (sym g.log) (tcp_more past.log g.more handle side s)

    pub none_marked : (side : OpId) → MarksNoSocket now.log side → MarksNoSocket past.log side
    none_marked side n = marks_fewer past.log g.more side (subst (λ (log : List Entry). MarksNoSocket log side) g.log n)

    pub flow_grows : (from to : OpId) → Told from → Let to → (end : DirEnd) (bytes : ℕ) → FlowAt end (told_in from past.log) (past.may to) (taken_in to past.log) bytes → FlowAt end (told_in from now.log) (now.may to) (taken_in to now.log) bytes
    flow_grows from to t l Open bytes h = (g.may to l ∙ (h.0 ∙ sym (g.told from t)), h.1 ∙ ap (λ (x : List ℕ). capped (length x)) (sym (g.told from t)))
    flow_grows from to t l Clean bytes h =
        let all : now.may to ≡ taken_in to past.log = g.may to l ∙ (h.0 ∙ sym h.2) in
        let taken : taken_in to now.log ≡ taken_in to past.log ++ taken_in to g.more = ap (λ (log : List Entry). taken_in to log) g.log ∙ taken_append to past.log g.more in
        let f = front now to in
        let whole : (taken_in to past.log ++ taken_in to g.more) ++ f.0 ≡ taken_in to past.log = ap (λ (x : List ℕ). x ++ f.0) (sym taken) ∙ (f.1 ∙ all) in
        (g.may to l ∙ (h.0 ∙ sym (g.told from t)), h.1 ∙ ap (λ (x : List ℕ). capped (length x)) (sym (g.told from t)), taken ∙ (front_whole (taken_in to past.log) (taken_in to g.more) f.0 whole ∙ (h.2 ∙ sym (g.told from t))))
    flow_grows from to t l Broken bytes h = (h.0, ap (λ (x : List ℕ). x ++ h.0) (g.may to l) ∙ (h.1 ∙ sym (g.told from t)))

  -- == a pair
  abbrev pub StageIs : List Entry → Stage → OpId → Type 0
  StageIs log (Connected peer) side = IsSide log peer.input side × IsSide log peer.output side
  StageIs log Connecting side = Unit {0}
  StageIs log Over side = Unit {0}

  -- The pair's sockets are of these two network sockets, and so much was copied between them.
  pub record PairIs (past : Past contexts) (pair : Pair) (client target : OpId) : Type 0 where
    pub client_socket : IsTcp past.log pair.client.socket client
    pub target_socket : IsTcp past.log pair.target target
    pub input : IsSide past.log pair.client.input client
    pub output : IsSide past.log pair.client.output client
    pub stage : StageIs past.log pair.stage target
    pub up : FlowIs past client target pair.up
    pub down : FlowIs past target client pair.down

  module _ {past now : Past contexts} {Told Let : OpId → Type 0} (g : Grows past now Told Let) where
    pub stage_grows : (stage : Stage) (side : OpId) → StageIs past.log stage side → StageIs now.log stage side
    stage_grows (Connected peer) side h = (side_grows g peer.input side h.0, side_grows g peer.output side h.1)
    stage_grows Connecting side h = tt
    stage_grows Over side h = tt

    pub pair_grows : (pair : Pair) (client target : OpId) → Told client → Told target → Let client → Let target → PairIs past pair client target → PairIs now pair client target
    pair_grows pair client target tc tt_ lc lt h = record {
      client_socket = tcp_grows g pair.client.socket client h.client_socket;
      target_socket = tcp_grows g pair.target target h.target_socket;
      input = side_grows g pair.client.input client h.input;
      output = side_grows g pair.client.output client h.output;
      stage = stage_grows pair.stage target h.stage;
      up = flow_grows g client target tc lt pair.up.end pair.up.bytes h.up;
      down = flow_grows g target client tt_ lc pair.down.end pair.down.bytes h.down;
    }

  -- == all pairs, each with its two network sockets
  abbrev pub PairsAre : Past contexts → List Pair → List (OpId × OpId) → Type 0
  PairsAre past [] [] = Unit {0}
  PairsAre past (pair ∷ pairs) (x ∷ xs) = PairIs past pair x.0 x.1 × PairsAre past pairs xs
  PairsAre past _ _ = ⊥

  -- no more was told or let write but of these two
  abbrev pub Other : OpId → OpId → OpId → Type 0
  Other client target side = (side ≡ client → ⊥) × (side ≡ target → ⊥)

  pub pairs_grow : {past now : Past contexts} (client target : OpId) → Grows past now (Other client target) (Other client target) → (pairs : List Pair) (xs : List (OpId × OpId)) → Away client xs → Away target xs → PairsAre past pairs xs → PairsAre now pairs xs
  pairs_grow client target g [] [] a b h = tt
  pairs_grow client target g (pair ∷ pairs) (x ∷ xs) a b h = (pair_grows g pair x.0 x.1 (a.0, b.0) (a.1, b.1) (a.0, b.0) (a.1, b.1) h.0, pairs_grow client target g pairs xs a.2 b.2 h.1)
  pairs_grow client target g [] (x ∷ xs) a b h = absurd h
  pairs_grow client target g (pair ∷ pairs) [] a b h = absurd h

  -- where no more was told or let write at all
  abbrev pub Any : OpId → Type 0
  Any side = Unit {0}

  pub pairs_stay : {past now : Past contexts} → Grows past now Any Any → (pairs : List Pair) (xs : List (OpId × OpId)) → PairsAre past pairs xs → PairsAre now pairs xs
  pairs_stay g [] [] h = tt
  pairs_stay g (pair ∷ pairs) (x ∷ xs) h = (pair_grows g pair x.0 x.1 tt tt tt tt h.0, pairs_stay g pairs xs h.1)
  pairs_stay g [] (x ∷ xs) h = absurd h
  pairs_stay g (pair ∷ pairs) [] h = absurd h

  -- a network socket that isn't in a mark of a socket told nothing, and nothing was let write to it
  abbrev pub Fresh : Past contexts → Type 0
  Fresh past = (side : OpId) → MarksNoSocket past.log side → (told_in side past.log ≡ []) × (past.may side ≡ [])

  pub fresh_grows : {past now : Past contexts} {Told Let : OpId → Type 0} (g : Grows past now Told Let) → ((side : OpId) → MarksNoSocket now.log side → Told side × Let side) → Fresh past → Fresh now
  fresh_grows g k f side n = let old = f side (none_marked g side n) in (g.told side (k side n).0 ∙ old.0, g.may side (k side n).1 ∙ old.1)

  -- == at the end
  module _ (past : Past contexts) where
    flow_copied : (from to : OpId) (flow : Flow) (end : DirEnd) → flow.end ≡ end → FlowAt end (told_in from past.log) (past.may to) (taken_in to past.log) flow.bytes → IsCopied past.log from to flow
    flow_copied from to flow Open e h = record { front = subst (IsFrontOf (taken_in to past.log)) h.0 (front past to); clean = λ c. absurd (let x : Open ≡ Clean = sym e ∙ c in cc); count = λ c. absurd (let x : Open ≡ Clean = sym e ∙ c in cc) }
    flow_copied from to flow Clean e h = record { front = subst (IsFrontOf (taken_in to past.log)) h.0 (front past to); clean = λ c. h.2; count = λ c. h.1 ∙ ap (λ (x : List ℕ). capped (length x)) (sym h.2) }
    flow_copied from to flow Broken e h = record { front = front_front (taken_in to past.log) (past.may to) (told_in from past.log) (front past to) h; clean = λ c. absurd (let x : Broken ≡ Clean = sym e ∙ c in cc); count = λ c. absurd (let x : Broken ≡ Clean = sym e ∙ c in cc) }

    pair_copied : (pair : Pair) (c t : OpId) → PairIs past pair c t → PairIsCopied past.log pair
    pair_copied pair c t h = record {
      client = c;
      target = t;
      of_client = tcp_side past.log pair.client.socket c h.client_socket;
      of_target = tcp_side past.log pair.target t h.target_socket;
      up = flow_copied c t pair.up pair.up.end refl h.up;
      down = flow_copied t c pair.down pair.down.end refl h.down;
    }

    pub all_copied : (pairs : List Pair) (xs : List (OpId × OpId)) → PairsAre past pairs xs → AllCopied past.log pairs
    all_copied [] [] h = tt
    all_copied (pair ∷ pairs) (x ∷ xs) h = (pair_copied pair x.0 x.1 h.0, all_copied pairs xs h.1)
    all_copied [] (x ∷ xs) h = absurd h
    all_copied (pair ∷ pairs) [] h = absurd h
