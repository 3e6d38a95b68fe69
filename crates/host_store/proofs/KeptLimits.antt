-- What is kept of limits, and what may be permitted.
use Rattle.std.proofs.Common.{◌≡◌, ℕ, zero, suc, ◌-◌, ◌<◌, ◌≤◌, ◌==◌, ◌++◌, Bool, true, false, cond, min, List, [], ◌∷◌, Option, Some, None, is_some, option_map, refl, sym, ap, subst, arith}
use Rattle.std.specs.List.{find}
use Rattle.std.specs.Option.{unwrap_or}
use Rattle.std.proofs.lemmas.Bool.{eq-eqb}
use Rattle.std.proofs.lemmas.Option.{same_Some}
use Rattle.wasi_world.specs.declared.outcome.WasiSocketsCtx.{WasiSocketsCtx}
use Rattle.wasi_records.specs.declared.records.Record.{Record}
use Rattle.wasi_records.specs.declared.records.Record.TheVariants.{Tcp, Udp, Lookup, InputPipe, OutputPipe, Slot as SlotRecord, Gone}
use Rattle.tcp_records.specs.declared.socket.TcpRecord.{TcpRecord}
use Rattle.wasi_records.specs.Numbered.{item_at}
use Rattle.wasi_records.specs.Records.{tcp2_at}
use Rattle.tcp_records.specs.Used.{held_in}
use Rattle.wasi_records.specs.Used.{used_in, used}
use Rattle.host_store.specs.declared.limits.Limit.{Limit}
use Rattle.host_store.specs.Limits.{limit_in, with_limit_by, limit_or, most_of, most_at}
use Rattle.host_store.specs.Store.{Records}

-- == what is kept
pub limit_found : (limits : List Limit) (context : ℕ) → limit_in limits context ≡ option_map (λ (l : Limit). l.most) (find (λ (l : Limit). l.context == context) limits)
limit_found [] context = refl
limit_found (l ∷ limits) context = by (l.context == context) (limit_found limits context)
  where
    by : (b : Bool) → limit_in limits context ≡ option_map (λ (k : Limit). k.most) (find (λ (k : Limit). k.context == context) limits)
        → cond b (Some l.most) (limit_in limits context) ≡ option_map (λ (k : Limit). k.most) (cond b (Some l) (find (λ (k : Limit). k.context == context) limits))
    by true later = refl
    by false later = later

pub stays_kept : (limits : List Limit) (ctx : WasiSocketsCtx) (o : Option ℕ) → is_some o ≡ true → with_limit_by limits ctx o ≡ limits
stays_kept limits ctx None there = absurd (cc)
stays_kept limits ctx (Some most) there = refl

pub newly_kept : (limits : List Limit) (ctx : WasiSocketsCtx) (o : Option ℕ) → is_some o ≡ false → with_limit_by limits ctx o ≡ limits ++ record { context = ctx.name; most = ctx.write_limit } ∷ []
newly_kept limits ctx None none = refl
newly_kept limits ctx (Some most) none = absurd (cc)

-- == what may be permitted
pub most_small : (store : Records) (o : Option TcpRecord) → most_at store o ≤ 65536
most_small store None = omega arith
most_small store (Some r) = omega arith

limit_or_none : (o : Option ℕ) → unwrap_or o 0 ≡ limit_or o
limit_or_none None = refl
limit_or_none (Some most) = refl

-- a socket's record counts for its maker
used_here : (rs : List Record) (place : ℕ) (r : TcpRecord) → tcp2_at rs place ≡ Some r → used_in r.maker (item_at rs place) ≡ held_in r.streams
used_here [] place r e = absurd (cc)
used_here (Tcp y ∷ rs) zero r e =
    let mine : used_in r.maker (Tcp r) ≡ held_in r.streams = ap (λ (b : Bool). cond b (held_in r.streams) 0) (eq-eqb r.maker r.maker refl) in
    subst (λ (z : TcpRecord). used_in r.maker (Tcp z) ≡ held_in r.streams) (sym (same_Some y r e)) mine
used_here (Udp u ∷ rs) zero r e = absurd (cc)
used_here (Lookup l ∷ rs) zero r e = absurd (cc)
used_here (InputPipe b ∷ rs) zero r e = absurd (cc)
used_here (OutputPipe p ∷ rs) zero r e = absurd (cc)
used_here (SlotRecord s ∷ rs) zero r e = absurd (cc)
used_here (Gone ∷ rs) zero r e = absurd (cc)
used_here (x ∷ rs) (suc k) r e = used_here rs k r e

-- what its maker's other writers leave of a limit that is a u64
pub most_is : (store : Records) (place : ℕ) (r : TcpRecord) (kept : Option ℕ) {limit others : ℕ} → tcp2_at store.records place ≡ Some r
    → limit ≡ unwrap_or kept 0 → limit < 18446744073709551616 → kept ≡ limit_in store.limits r.maker
    → others ≡ min (used r.maker store.records - used_in r.maker (item_at store.records place)) 18446744073709551615
    → min 65536 (limit - others) ≡ most_of store r
most_is store place r kept {limit} {others} found is fits keeps rest =
    let here = used_here store.records place r found in
    let or_none = limit_or_none kept in
    let most = ap limit_or keeps in omega (arith, here, is, or_none, most, fits, rest)
