-- How the bytes that the writers of a context hold change with a record: they stay within its limit.
use Rattle.std.proofs.Common.{◌-◌, cond}
use Rattle.std.proofs.lemmas.Bool.{eqb-true}
use Rattle.wasi_records.proofs.Sums.{used_at, used_more, used_put}
use Rattle.wasi_records.specs.Numbered.{item_at}
use Rattle.wasi_records.specs.Records.{tcp2_at, tcp2_of, tcp2_put, tcp2_pushed}
use Rattle.tcp_records.specs.Used.{held_in, used_by}
use Rattle.wasi_records.specs.Used.{used, used_in}
use Rattle.wasi_records.specs.declared.records.Record.{Record}
use Rattle.wasi_records.specs.declared.records.Record.TheVariants.{Tcp}
use Rattle.host_store.specs.Limits.{left, limit_in, limit_or, with_limit, with_limit_by}
use Rattle.host_store.specs.Store.{Records, with_socket}
use Rattle.host_store.specs.declared.limits.Limit.{Limit}
use Rattle.wasi_walks.proofs.walks.Limits.{in_list}
use Rattle.wasi_laws.proofs.Words.{Bool, List, None, Option, Some, TcpRecord, WasiSocketsCtx, [], ap, arith, false, refl, slice_set, subst, suc, sym, true, zero, ℕ, ◌++◌, ◌+◌, ◌==◌, ◌∙◌, ◌∷◌, ◌≡◌, ◌≤◌}
use Rattle.wasi_laws.specs.Limits.{IsWithin}

-- == a record
-- a socket of the same context that holds no more
counts_less : (context : ℕ) (r now : TcpRecord) → now.maker ≡ r.maker → held_in now.streams ≤ held_in r.streams → used_by context now ≤ used_by context r
counts_less context r now same less = rw same (by_test (r.maker == context))
  where
    by_test : (b : Bool) → cond b (held_in now.streams) 0 ≤ cond b (held_in r.streams) 0
    by_test true = less
    by_test false = omega arith

-- one that holds nothing
counts_none : (context : ℕ) (r : TcpRecord) → held_in r.streams ≡ 0 → used_by context r ≡ 0
counts_none context r none = by_test (r.maker == context) (held_in r.streams) none
  where
    by_test : (b : Bool) (n : ℕ) → n ≡ 0 → cond b n 0 ≡ 0
    by_test true n e = e
    by_test false n e = refl

-- == the records
put_none : (context : ℕ) (rs : List Record) (place : ℕ) (x : Record) → used_in context x ≡ 0 → used context (slice_set rs place x) ≤ used context rs
put_none context [] place x none = omega arith
put_none context (z ∷ rs) zero x none = rw none (omega arith)
put_none context (z ∷ rs) (suc place) x none = let later = put_none context rs place x none in omega (arith, later)

put_less : (context : ℕ) (rs : List Record) (place : ℕ) (r now : TcpRecord) → tcp2_at rs place ≡ Some r → used_by context now ≤ used_by context r → used context (tcp2_put rs place now) ≤ used context rs
put_less context rs place r now g less =
    let it = in_list rs place r g in
    let put = used_put context rs place (Tcp now) it.0 in
    let was : used_in context (item_at rs place) ≡ used_by context r = ap (used_in context) it.1 in
    omega (arith, put, was)

-- other records with the same TCP sockets
abbrev counts_found : ℕ → Option TcpRecord → ℕ
counts_found context None = 0
counts_found context (Some r) = used_by context r

counts_found_is : (context : ℕ) (x : Record) → used_in context x ≡ counts_found context (tcp2_of (Some x))
counts_found_is context (Tcp r) = refl
counts_found_is context _ = refl

used_same : (context : ℕ) (rs xs : List Record) → ((k : ℕ) → tcp2_at xs k ≡ tcp2_at rs k) → used context xs ≡ used context rs
used_same context [] [] e = refl
used_same context [] (x ∷ xs) e =
    let none : used_in context x ≡ 0 = counts_found_is context x ∙ ap (counts_found context) (e 0) in
    let later = used_same context [] xs (λ k. e (suc k)) in omega (arith, none, later)
used_same context (r ∷ rs) [] e =
    let none : used_in context r ≡ 0 = counts_found_is context r ∙ ap (counts_found context) (sym (e 0)) in
    let later = used_same context rs [] (λ k. e (suc k)) in omega (arith, none, later)
used_same context (r ∷ rs) (x ∷ xs) e =
    let one : used_in context x ≡ used_in context r = counts_found_is context x ∙ (ap (counts_found context) (e 0) ∙ sym (counts_found_is context r)) in
    let later = used_same context rs xs (λ k. e (suc k)) in omega (arith, one, later)

-- == a permit
-- the other writers of the context leave this much
permit_fits : (used_now used_before own most limit : ℕ) → used_now + own ≡ used_before + most → own ≤ used_before → used_before ≤ limit → most ≤ limit - (used_before - own) → used_now ≤ limit
permit_fits used_now used_before own most limit put part within fits = omega arith

module _ (store : Records) (place : ℕ) (r now : TcpRecord) (g : tcp2_at store.records place ≡ Some r) (same : now.maker ≡ r.maker) (fits : held_in now.streams ≤ left store r.maker (held_in r.streams)) (within : IsWithin store) where
  permit_by : (context : ℕ) (b : Bool) → (r.maker == context) ≡ b → used context (tcp2_put store.records place now) ≤ limit_or (limit_in store.limits context)
  permit_by context true e =
      let is : r.maker ≡ context = eqb-true r.maker context e in
      let it = in_list store.records place r g in
      let put = used_put context store.records place (Tcp now) it.0 in
      let part = used_at context store.records place in
      let was : used_in context (item_at store.records place) ≡ held_in r.streams = ap (used_in context) it.1 ∙ ap (λ (b : Bool). cond b (held_in r.streams) 0) e in
      let counts : used_by context now ≡ held_in now.streams = ap (λ (maker : ℕ). cond (maker == context) (held_in now.streams) 0) same ∙ ap (λ (b : Bool). cond b (held_in now.streams) 0) e in
      let most : held_in now.streams ≤ limit_or (limit_in store.limits context) - (used context store.records - held_in r.streams) = subst (λ (n : ℕ). held_in now.streams ≤ left store n (held_in r.streams)) is fits in
      permit_fits (used context (tcp2_put store.records place now)) (used context store.records) (held_in r.streams) (held_in now.streams) (limit_or (limit_in store.limits context)) (omega (arith, put, was, counts)) (omega (arith, part, was)) (within context) most
  permit_by context false e =
      let counts : used_by context now ≡ 0 = ap (λ (maker : ℕ). cond (maker == context) (held_in now.streams) 0) same ∙ ap (λ (b : Bool). cond b (held_in now.streams) 0) e in
      let less = put_none context store.records place (Tcp now) counts in
      let was = within context in omega (arith, less, was)

  pub permit_within : IsWithin (with_socket store place now)
  permit_within context = permit_by context (r.maker == context) refl

-- == what the store keeps
module _ (store : Records) (within : IsWithin store) where
  -- a socket that holds no more than before
  pub socket_within : (place : ℕ) (r now : TcpRecord) → tcp2_at store.records place ≡ Some r → now.maker ≡ r.maker → held_in now.streams ≤ held_in r.streams → IsWithin (with_socket store place now)
  socket_within place r now g same less context =
      let put = put_less context store.records place r now g (counts_less context r now same less) in
      let was = within context in omega (arith, put, was)

  -- what isn't a TCP socket
  pub other_within : (place : ℕ) (x : Record) → ((context : ℕ) → used_in context x ≡ 0) → IsWithin (record store { records = slice_set store.records place x })
  other_within place x none context =
      let put = put_none context store.records place x (none context) in
      let was = within context in omega (arith, put, was)

  -- one more, which holds nothing
  pub more_within : (x : Record) → ((context : ℕ) → used_in context x ≡ 0) → IsWithin (record store { records = store.records ++ x ∷ [] })
  more_within x none context =
      let more = used_more context store.records x in let holds = none context in
      let was = within context in omega (arith, more, holds, was)

  pub new_within : (r : TcpRecord) → held_in r.streams ≡ 0 → IsWithin (record store { records = tcp2_pushed store.records r })
  new_within r none = more_within (Tcp r) (λ context. counts_none context r none)

  pub same_within : (records : List Record) → ((k : ℕ) → tcp2_at records k ≡ tcp2_at store.records k) → IsWithin (record store { records = records })
  same_within records same context =
      let counts = used_same context store.records records same in
      let was = within context in omega (arith, counts, was)

-- one more limit is kept
module _ (ctx : WasiSocketsCtx) (context : ℕ) where
  abbrev limit_at : List Limit → ℕ
  limit_at limits = limit_or (limit_in limits context)

  more_limits : (limits : List Limit) → limit_at limits ≤ limit_at (limits ++ record { context = ctx.name; most = ctx.write_limit } ∷ [])
  more_limits [] = omega arith
  more_limits (l ∷ limits) = by_test (l.context == context) (more_limits limits)
    where
      by_test : (b : Bool) → limit_at limits ≤ limit_at (limits ++ record { context = ctx.name; most = ctx.write_limit } ∷ []) → limit_or (cond b (Some l.most) (limit_in limits context)) ≤ limit_or (cond b (Some l.most) (limit_in (limits ++ record { context = ctx.name; most = ctx.write_limit } ∷ []) context))
      by_test true later = omega arith
      by_test false later = later

  kept_limits : (limits : List Limit) (o : Option ℕ) → limit_at limits ≤ limit_at (with_limit_by limits ctx o)
  kept_limits limits None = more_limits limits
  kept_limits limits (Some most) = omega arith

pub limit_within : (store : Records) (ctx : WasiSocketsCtx) → IsWithin store → IsWithin (with_limit store ctx)
limit_within store ctx within context =
    let more = kept_limits ctx context store.limits (limit_in store.limits ctx.name) in
    let was = within context in omega (arith, more, was)
