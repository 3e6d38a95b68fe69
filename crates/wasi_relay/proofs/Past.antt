-- What a guest has done at a point of its run, and that the run follows the guest to its end.
use Rattle.std.proofs.Common.{◌≡◌, ◌∙◌, ℕ, suc, ◌+◌, refl, sym, ap, subst, List, [], ◌∷◌, ◌++◌, length, append-nil, append_assoc, length-append, Bool, true, false, if◌then◌else◌, arith}
use Rattle.wasi_world.specs.declared.ids.OpId.{OpId}
use Rattle.wasi_world.specs.declared.call.Entry.{Entry}
use Rattle.wasi_world.specs.declared.outcome.WasiSocketsCtx.{WasiSocketsCtx}
use Rattle.wasi_world.specs.Asks.{Asks, Give, Ask, AskWrite, Left}
unfoldable use Rattle.wasi_world.specs.Asks.{bind}
use Rattle.host_store.specs.declared.machine.Machine.{Machine}
use Rattle.host_store.specs.Machine.{first_state}
use Rattle.wasi_machine.specs.Machine.{machine_asks, run}
use Rattle.wasi_steps.specs.declared.reply.Reply.{Reply}
use Rattle.wasi_steps.specs.declared.step.Step.{Step}
use Rattle.wasi_steps.specs.Reply.{is_trap}
use Rattle.wasi_walks.specs.Answered.{Answered}
use Rattle.wasi_laws.specs.Permitted.{Did, Nothing, Then, permitted_by}
use Rattle.wasi_relay.specs.declared.pair.Pair.{Pair}
use Rattle.wasi_relay.specs.declared.service.RelayEnd.{RelayEnd}
use Rattle.wasi_relay.specs.Copied.{AllCopied}
use Rattle.wasi_relay.specs.Guest.{Guest, Do, Ends, Leads}

-- == trees one after another
-- What the first gave, and how many entries it took.
record Parts {A B : Type 0} (asks : Asks A) (f : A → Asks B) (es : List Entry) (b : B) : Type 0 where
  a : A
  front : List Entry
  back : List Entry
  cut : es ≡ front ++ back
  first : Left asks front (Give a)
  last : Left (f a) back (Give b)

parts : {A B : Type 0} (asks : Asks A) (f : A → Asks B) (es : List Entry) (b : B) → Left (bind asks f) es (Give b) → Parts asks f es b
unfolding bind
parts (Give a) f es b w = record { a = a; front = []; back = es; cut = refl; first = refl; last = w }
parts (Ask op c next) f [] b w = absurd (cc)
parts (Ask op c next) f (e ∷ es) b w = let k = parts (next e.answer) f es b w.1 in record { a = k.a; front = e ∷ k.front; back = k.back; cut = ap (λ (fs : List Entry). e ∷ fs) k.cut; first = (w.0, k.first); last = k.last }
parts (AskWrite op sock bytes next) f [] b w = absurd (cc)
parts (AskWrite op sock bytes next) f (e ∷ es) b w = let k = parts (next e.answer) f es b w.2 in record { a = k.a; front = e ∷ k.front; back = k.back; cut = ap (λ (fs : List Entry). e ∷ fs) k.cut; first = (w.0, w.1, k.first); last = k.last }

left_then : {A B : Type 0} (asks : Asks A) (f : A → Asks B) (front back : List Entry) (a : A) (rest : Asks B) → Left asks front (Give a) → Left (f a) back rest → Left (bind asks f) (front ++ back) rest
unfolding bind
left_then (Give x) f [] back a rest w v = let same : a ≡ x = cc in subst (λ (y : _). Left (f y) back rest) same v
left_then (Give x) f (e ∷ front) back a rest w v = absurd w
left_then (Ask op c next) f [] back a rest w v = absurd (cc)
left_then (Ask op c next) f (e ∷ front) back a rest w v = (w.0, left_then (next e.answer) f front back a rest w.1 v)
left_then (AskWrite op sock bytes next) f [] back a rest w v = absurd (cc)
left_then (AskWrite op sock bytes next) f (e ∷ front) back a rest w v = (w.0, w.1, left_then (next e.answer) f front back a rest w.2 v)

given_all : {A : Type 0} (a b : A) (es : List Entry) → Left (Give a) es (Give b) → (es ≡ []) × (a ≡ b)
given_all a b [] w = (refl, cc)
given_all a b (e ∷ es) w = absurd w

-- == replies
-- none of them is a trap
abbrev pub Goes : List Reply → Type 0
Goes [] = Unit {0}
Goes (r ∷ rs) = (is_trap r ≡ false) × Goes rs

goes_last : (rs : List Reply) (r : Reply) → Goes (rs ++ r ∷ []) → (Goes rs) × (is_trap r ≡ false)
goes_last [] r g = (tt, g.0)
goes_last (x ∷ rs) r g = let k = goes_last rs r g.1 in ((g.0, k.0), k.1)

pub goes_push : (rs : List Reply) (r : Reply) → Goes rs → is_trap r ≡ false → Goes (rs ++ r ∷ [])
goes_push [] r g e = (e, tt)
goes_push (x ∷ rs) r g e = (g.0, goes_push rs r g.1 e)

module _ (contexts : List WasiSocketsCtx) where
  -- what follows a step of a run
  abbrev after : List Reply → ℕ → List Step → Reply × Machine → Asks (List Reply × Machine)
  after rs line steps done = if is_trap done.0 then Give (rs ++ done.0 ∷ [], done.1) else run contexts (rs ++ done.0 ∷ []) done.1 (line + 1) steps

  last_after : (rs : List Reply) (line : ℕ) (r : Reply) (m : Machine) → after rs line [] (r, m) ≡ Give (rs ++ r ∷ [], m)
  last_after rs line r m = by_trap (is_trap r)
    where
      by_trap : (b : Bool) → (let asks : Asks (List Reply × Machine) = if b then Give (rs ++ r ∷ [], m) else Give (rs ++ r ∷ [], m) in asks) ≡ Give (rs ++ r ∷ [], m)
      by_trap true = refl
      by_trap false = refl

  -- == one step more
  pub run_push : (rs : List Reply) (m : Machine) (line : ℕ) (steps : List Step) (log : List Entry) (all : List Reply) (state : Machine) → Left (run contexts rs m line steps) log (Give (all, state)) → Goes all
      → (s : Step) (entries : List Entry) (r : Reply) (next : Machine) → Answered contexts state (line + length steps) s entries r next → Left (run contexts rs m line (steps ++ s ∷ [])) (log ++ entries) (Give (all ++ r ∷ [], next))
  run_push rs m line [] log all state w g s entries r next a =
      let k = given_all (rs, m) (all, state) log w in
      let same : rs ≡ all = ap (λ (p : List Reply × Machine). p.0) k.1 in
      let at : m ≡ state = ap (λ (p : List Reply × Machine). p.1) k.1 in
      let z : line + 0 ≡ line = omega arith in
      let done : Answered contexts m line s entries r next = subst (λ (x : Machine). Answered contexts x line s entries r next) (sym at) (subst (λ (n : ℕ). Answered contexts state n s entries r next) z a) in
      let one : Left (run contexts rs m line (s ∷ [])) (entries ++ []) (Give (rs ++ r ∷ [], next)) = left_then (machine_asks contexts m line s) (after rs line []) entries [] (r, next) (Give (rs ++ r ∷ [], next)) done (last_after rs line r next) in
      let P : List Entry → List Reply → Type 0 = λ es qs. Left (run contexts rs m line (s ∷ [])) es (Give (qs ++ r ∷ [], next)) in
      subst (λ (es : List Entry). P (es ++ entries) all) (sym k.0) (subst (λ (qs : List Reply). P entries qs) same (subst (λ (es : List Entry). P es rs) (append-nil entries) one))
  run_push rs m line (x ∷ steps) log all state w g s entries r next a =
      let k = parts (machine_asks contexts m line x) (after rs line steps) log (all, state) w in
      let n : line + suc (length steps) ≡ line + 1 + length steps = omega arith in
      subst (λ (es : List Entry). Left (run contexts rs m line (x ∷ (steps ++ s ∷ []))) (es ++ entries) (Give (all ++ r ∷ [], next))) (sym k.cut)
      (subst (λ (es : List Entry). Left (run contexts rs m line (x ∷ (steps ++ s ∷ []))) es (Give (all ++ r ∷ [], next))) (sym (append_assoc k.front k.back entries))
      (left_then (machine_asks contexts m line x) (after rs line (steps ++ s ∷ [])) k.front (k.back ++ entries) k.a (Give (all ++ r ∷ [], next)) k.first
      (by_trap k.a.0 k.a.1 k.back (is_trap k.a.0) refl k.last (λ v. run_push (rs ++ k.a.0 ∷ []) k.a.1 (line + 1) steps k.back all state v g s entries r next (subst (λ (l : ℕ). Answered contexts state l s entries r next) n a)))))
    where
      by_trap : (q : Reply) (now : Machine) (back : List Entry) (b : Bool) → is_trap q ≡ b
          → (let asks : Asks (List Reply × Machine) = if b then Give (rs ++ q ∷ [], now) else run contexts (rs ++ q ∷ []) now (line + 1) steps in Left asks back (Give (all, state)))
          → (Left (run contexts (rs ++ q ∷ []) now (line + 1) steps) back (Give (all, state)) → Left (run contexts (rs ++ q ∷ []) now (line + 1) (steps ++ s ∷ [])) (back ++ entries) (Give (all ++ r ∷ [], next)))
          → (let asks : Asks (List Reply × Machine) = if b then Give (rs ++ q ∷ [], now) else run contexts (rs ++ q ∷ []) now (line + 1) (steps ++ s ∷ []) in Left asks (back ++ entries) (Give (all ++ r ∷ [], next)))
      by_trap q now back false e v again = again v
      by_trap q now back true e v again =
          let p : rs ++ q ∷ [] ≡ all = ap (λ (p : List Reply × Machine). p.0) (given_all (rs ++ q ∷ [], now) (all, state) back v).1 in
          absurd (let f = (goes_last rs q (subst Goes (sym p) g)).1 in let t : true ≡ false = sym e ∙ f in cc)

  pub did_push : (side : OpId) (m : Machine) (line : ℕ) (steps : List Step) (log : List Entry) (bytes : List ℕ) (state : Machine) → Did contexts side m line steps log bytes state
      → (s : Step) (entries : List Entry) (r : Reply) (next : Machine) → Answered contexts state (line + length steps) s entries r next → Did contexts side m line (steps ++ s ∷ []) (log ++ entries) (bytes ++ permitted_by state side (line + length steps) s entries) next
  did_push side _ _ _ _ _ _ (Nothing m line) s entries r next a =
      let z : line + 0 ≡ line = omega arith in
      let P : ℕ → List Entry → List ℕ → Type 0 = λ n es bytes. Did contexts side m line (s ∷ []) es bytes next in
      let one : Did contexts side m line (s ∷ []) (entries ++ []) (permitted_by m side line s entries ++ []) next = Then m next next line s [] entries [] r [] (subst (λ (n : ℕ). Answered contexts m n s entries r next) z a) (Nothing next (line + 1)) in
      subst (λ (n : ℕ). Did contexts side m line (s ∷ []) entries (permitted_by m side n s entries) next) (sym z)
      (subst (λ (es : List Entry). Did contexts side m line (s ∷ []) es (permitted_by m side line s entries) next) (append-nil entries)
      (subst (λ (bytes : List ℕ). Did contexts side m line (s ∷ []) (entries ++ []) bytes next) (append-nil (permitted_by m side line s entries)) one))
  did_push side _ _ _ _ _ _ (Then m mid state line x steps front log q bytes w d) s entries r next a =
      let n : line + suc (length steps) ≡ line + 1 + length steps = omega arith in
      let more = did_push side mid (line + 1) steps log bytes state d s entries r next (subst (λ (l : ℕ). Answered contexts state l s entries r next) n a) in
      let p = permitted_by m side line x front in
      subst (λ (l : ℕ). Did contexts side m line (x ∷ (steps ++ s ∷ [])) ((front ++ log) ++ entries) ((p ++ bytes) ++ permitted_by state side l s entries) next) (sym n)
      (subst (λ (es : List Entry). Did contexts side m line (x ∷ (steps ++ s ∷ [])) es ((p ++ bytes) ++ permitted_by state side (line + 1 + length steps) s entries) next) (sym (append_assoc front log entries))
      (subst (λ (bs : List ℕ). Did contexts side m line (x ∷ (steps ++ s ∷ [])) (front ++ (log ++ entries)) bs next) (sym (append_assoc p bytes (permitted_by state side (line + 1 + length steps) s entries)))
      (Then m mid next line x (steps ++ s ∷ []) front (log ++ entries) q _ w more)))

  -- == what was done
  -- The steps so far, with their replies, what the log has of them, and which bytes they were let write.
  pub record Past : Type 0 where
    pub steps : List Step
    pub replies : List Reply
    pub log : List Entry
    pub state : Machine
    pub may : OpId → List ℕ
    pub did : (side : OpId) → Did contexts side first_state 1 steps log (may side) state
    pub ran : Left (run contexts [] first_state 1 steps) log (Give (replies, state))

  pub line_of : Past → ℕ
  line_of past = 1 + length past.steps

  abbrev pub nothing_done : Past
  nothing_done = record { steps = []; replies = []; log = []; state = first_state; may = λ side. []; did = λ side. Nothing first_state 1; ran = refl }

  abbrev pub Replies : Past → Step → List Entry → Reply → Machine → Type 0
  Replies past s entries r next = Answered contexts past.state (1 + length past.steps) s entries r next

  abbrev pub push : (past : Past) → Goes past.replies → (s : Step) (entries : List Entry) (r : Reply) (next : Machine) → Replies past s entries r next → Past
  push past g s entries r next a = record {
    steps = past.steps ++ s ∷ [];
    replies = past.replies ++ r ∷ [];
    log = past.log ++ entries;
    state = next;
    may = λ side. past.may side ++ permitted_by past.state side (1 + length past.steps) s entries;
    did = λ side. did_push side first_state 1 past.steps past.log (past.may side) past.state (past.did side) s entries r next a;
    ran = run_push [] first_state 1 past.steps past.log past.replies past.state past.ran g s entries r next a;
  }

  -- whatever the steps are answered, all is copied at its end
  abbrev pub Copies : Guest → Past → Type 0
  Copies (Ends end pairs) past = AllCopied past.log pairs
  Copies (Do s next) past = (g : Goes past.replies) (entries : List Entry) (r : Reply) (now : Machine) (a : Replies past s entries r now) → Copies (next r) (push past g s entries r now a)

  -- == the run follows the guest
  -- its replies begin with those before it
  replies_front : (rs : List Reply) (m : Machine) (line : ℕ) (steps : List Step) (log : List Entry) (all : List Reply) (state : Machine) → Left (run contexts rs m line steps) log (Give (all, state)) → (more : List Reply) × (all ≡ rs ++ more)
  replies_front rs m line [] log all state w = ([], sym (ap (λ (p : List Reply × Machine). p.0) (given_all (rs, m) (all, state) log w).1) ∙ sym (append-nil rs))
  replies_front rs m line (x ∷ steps) log all state w =
      let k = parts (machine_asks contexts m line x) (after rs line steps) log (all, state) w in
      by_trap k.a.0 k.a.1 k.back (is_trap k.a.0) k.last (λ v. replies_front (rs ++ k.a.0 ∷ []) k.a.1 (line + 1) steps k.back all state v)
    where
      by_trap : (q : Reply) (now : Machine) (back : List Entry) (b : Bool) → (let asks : Asks (List Reply × Machine) = if b then Give (rs ++ q ∷ [], now) else run contexts (rs ++ q ∷ []) now (line + 1) steps in Left asks back (Give (all, state)))
          → (Left (run contexts (rs ++ q ∷ []) now (line + 1) steps) back (Give (all, state)) → (more : List Reply) × (all ≡ (rs ++ q ∷ []) ++ more)) → (more : List Reply) × (all ≡ rs ++ more)
      by_trap q now back true v again = (q ∷ [], sym (ap (λ (p : List Reply × Machine). p.0) (given_all (rs ++ q ∷ [], now) (all, state) back v).1))
      by_trap q now back false v again = let k = again v in (q ∷ k.0, k.1 ∙ append_assoc rs (q ∷ []) k.0)

  same_rest : (rs : List Reply) (a b : List Reply) → rs ++ a ≡ rs ++ b → a ≡ b
  same_rest [] a b e = e
  same_rest (x ∷ rs) a b e = same_rest rs a b (cc)

  none_leads : (guest : Guest) (r : Reply) (replies : List Reply) (end : RelayEnd) (pairs : List Pair) → Leads guest [] (r ∷ replies) (Ends end pairs) → ⊥
  none_leads (Do s next) r replies end pairs l = l
  none_leads (Ends e ps) r replies end pairs l = l

  ends_there : (guest : Guest) (steps : List Step) (end : RelayEnd) (pairs : List Pair) → Leads guest steps [] (Ends end pairs) → (steps ≡ []) × (guest ≡ Ends end pairs)
  ends_there guest [] end pairs l = (refl, l)
  ends_there (Do s next) (x ∷ steps) end pairs l = absurd l
  ends_there (Ends e ps) (x ∷ steps) end pairs l = absurd l

  pub follow : (guest : Guest) (steps : List Step) (replies : List Reply) (end : RelayEnd) (pairs : List Pair) → Leads guest steps replies (Ends end pairs) → (past : Past) → Goes past.replies → Copies guest past
      → (log : List Entry) (state : Machine) → Left (run contexts past.replies past.state (1 + length past.steps) steps) log (Give (past.replies ++ replies, state)) → AllCopied (past.log ++ log) pairs
  follow guest [] [] end pairs l past g k log state w =
      let none : log ≡ [] = (given_all (past.replies, past.state) (past.replies ++ [], state) log w).0 in
      let here : AllCopied past.log pairs = subst (λ (x : Guest). Copies x past) l k in
      subst (λ (es : List Entry). AllCopied (past.log ++ es) pairs) (sym none) (subst (λ (es : List Entry). AllCopied es pairs) (sym (append-nil past.log)) here)
  follow (Do s next) (x ∷ steps) (r ∷ replies) end pairs l past g k log state w =
      let p = parts (machine_asks contexts past.state (1 + length past.steps) x) (after past.replies (1 + length past.steps) steps) log (past.replies ++ r ∷ replies, state) w in
      subst (λ (es : List Entry). AllCopied (past.log ++ es) pairs) (sym p.cut)
      (by_trap p.a.0 p.a.1 p.front p.back (subst (λ (y : Step). Left (machine_asks contexts past.state (1 + length past.steps) y) p.front (Give p.a)) l.0 p.first) (is_trap p.a.0) refl p.last
      (λ lead now goes copies left. follow (next p.a.0) steps replies end pairs lead now goes copies p.back state left))
    where
      by_trap : (q : Reply) (now : Machine) (front back : List Entry) → Answered contexts past.state (1 + length past.steps) s front q now → (b : Bool) → is_trap q ≡ b
          → (let asks : Asks (List Reply × Machine) = if b then Give (past.replies ++ q ∷ [], now) else run contexts (past.replies ++ q ∷ []) now (1 + length past.steps + 1) steps in Left asks back (Give (past.replies ++ r ∷ replies, state)))
          → (Leads (next q) steps replies (Ends end pairs) → (later : Past) → Goes later.replies → Copies (next q) later → Left (run contexts later.replies later.state (1 + length later.steps) steps) back (Give (later.replies ++ replies, state)) → AllCopied (later.log ++ back) pairs)
          → AllCopied (past.log ++ (front ++ back)) pairs
      by_trap q now front back a true t v again =
          let all = given_all (past.replies ++ q ∷ [], now) (past.replies ++ r ∷ replies, state) back v in
          let same : q ∷ [] ≡ r ∷ replies = same_rest past.replies (q ∷ []) (r ∷ replies) (ap (λ (z : List Reply × Machine). z.0) all.1) in
          let its : r ≡ q = cc in
          let none : replies ≡ [] = cc in
          let over = ends_there (next r) steps end pairs (subst (λ (rs : List Reply). Leads (next r) steps rs (Ends end pairs)) none l.1) in
          let done : Copies (next q) (push past g s front q now a) = k g front q now a in
          let last : next q ≡ Ends end pairs = ap next (sym its) ∙ over.1 in
          let here : AllCopied (past.log ++ front) pairs = subst (λ (y : Guest). Copies y (push past g s front q now a)) last done in
          subst (λ (es : List Entry). AllCopied (past.log ++ (front ++ es)) pairs) (sym all.0) (subst (λ (es : List Entry). AllCopied (past.log ++ es) pairs) (sym (append-nil front)) here)
      by_trap q now front back a false t v again =
          let more = replies_front (past.replies ++ q ∷ []) now (1 + length past.steps + 1) steps back (past.replies ++ r ∷ replies) state v in
          let same : r ∷ replies ≡ q ∷ more.0 = same_rest past.replies (r ∷ replies) (q ∷ more.0) (more.1 ∙ append_assoc past.replies (q ∷ []) more.0) in
          let its : r ≡ q = cc in
          let count : 1 + length past.steps + 1 ≡ 1 + length (past.steps ++ s ∷ []) = (let z = length-append past.steps (s ∷ []) in omega arith) in
          let given : past.replies ++ r ∷ replies ≡ (past.replies ++ q ∷ []) ++ replies = ap (λ (y : Reply). past.replies ++ y ∷ replies) its ∙ sym (append_assoc past.replies (q ∷ []) replies) in
          let rest : Left (run contexts (past.replies ++ q ∷ []) now (1 + length (past.steps ++ s ∷ [])) steps) back (Give ((past.replies ++ q ∷ []) ++ replies, state)) =
          subst (λ (n : ℕ). Left (run contexts (past.replies ++ q ∷ []) now n steps) back (Give ((past.replies ++ q ∷ []) ++ replies, state))) count
          (subst (λ (rs : List Reply). Left (run contexts (past.replies ++ q ∷ []) now (1 + length past.steps + 1) steps) back (Give (rs, state))) given v) in
          subst (λ (es : List Entry). AllCopied es pairs) (append_assoc past.log front back)
          (again (subst (λ (y : Reply). Leads (next y) steps replies (Ends end pairs)) its l.1) (push past g s front q now a) (goes_push past.replies q g t) (k g front q now a) rest)
  follow (Ends e ps) (x ∷ steps) (r ∷ replies) end pairs l past g k log state w = absurd l
  follow guest [] (r ∷ replies) end pairs l past g k log state w = absurd (none_leads guest r replies end pairs l)
  follow guest (x ∷ steps) [] end pairs l past g k log state w = absurd (let e = (ends_there guest (x ∷ steps) end pairs l).0 in cc)
