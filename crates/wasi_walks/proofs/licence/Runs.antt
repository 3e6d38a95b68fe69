-- Each ask of a run is licensed, and each reply: between two lines the state fits the log, each line being
-- judged by the steps up to it.
use Rattle.wasi_walks.proofs.licence.Wilds.{WildIn, Wilds}
use Rattle.wasi_walks.proofs.walks.Here.{older_unused}
use Rattle.wasi_walks.proofs.Words.{Has, Told, ◌<◌}
use Rattle.wasi_walks.proofs.Words.{Allows, Asks, Begins, Call, Entry, Give, HasRun, IsLicensed, Left, List, Machine, MayAsk, OpId, Operation, Reply}
use Rattle.wasi_walks.proofs.Words.{Some, Step, TcpRecord, WasiSocketsCtx, [], add-one, allows_at, allows_if, allows_keep, allows_then}
use Rattle.wasi_walks.proofs.Words.{allows_weaker, ap, append-nil, append_assoc, arith, entry, first_state, inl, is_trap}
use Rattle.wasi_walks.proofs.Words.{length, length-append, machine_asks, own_of, refl, run, step_at, subst, sym}
use Rattle.wasi_walks.proofs.Words.{ℕ, ◌++◌, ◌+◌, ◌∙◌, ◌∷◌, ◌≡◌}
use Rattle.wasi_walks.proofs.licence.State.{StateIsFine}
use Rattle.wasi_walks.proofs.licence.Fresh.{IsNew, next_is_new}
use Rattle.wasi_walks.proofs.licence.Replies.{AskNoMore, Replied, allows_both, allows_each, each_may, none_no_more, replied_by, replied_longer, replied_more, replied_push, serves_keeps}
use Rattle.std.specs.Prelude.{Bool, IsSome, true, false, if◌then◌else◌}
use Rattle.wasi_walks.proofs.Words.{None, Option, Standing, GuestCall, Streams, WriteState, inr, nat_lt, step_at}
use Rattle.host_store.specs.declared.beside.Beside.{Beside}
use Rattle.host_store.specs.Machine.{output_at}
use Rattle.wasi_streams.specs.Streams.{zeros}
use Rattle.wasi_walks.proofs.walks.Writes.{may as may_write, may_at, may_begin, may_in, may_of}
use Rattle.wasi_walks.proofs.walks.States.{Starts}
use Rattle.wasi_walks.proofs.Lists.{cut_of}
use Rattle.wasi_walks.proofs.licence.Frames.{Goes, stay}
use Rattle.wasi_walks.proofs.licence.Law.{begins_licence, licence_along}
use Rattle.wasi_walks.proofs.licence.Longer.{on as goes_on}
use Rattle.wasi_walks.proofs.licence.Prefixes.{GoesOnBy, last_push, last_traps, run_splits}
use Rattle.wasi_walks.proofs.licence.Served.{Finally, Serves, asked_along, asks_by, begins_asked, first_asks, serves_line, serves_more}
use Rattle.wasi_walks.proofs.received.Askers.{MayRecv}
use Rattle.wasi_walks.proofs.received.Parted.{IsCounted}
use Rattle.wasi_walks.specs.Licence.{EachMayReply, MayReply, serves}
use Rattle.wasi_walks.proofs.fits.Polls.{Anything}
use Rattle.wasi_walks.proofs.received.Replies.{Lates, lines_later}
use Rattle.wasi_walks.proofs.received.State.{first_late}
use Rattle.wasi_world.proofs.Allowed.{reached}
use Rattle.wasi_walks.proofs.licence.Longer.{EachMayCome, licensed, with_replies, may_come, come_longer, may_more, state_more, listen_more, tcp_more}
use Rattle.wasi_walks.proofs.Lists.{get_seam}
use Rattle.wasi_walks.proofs.licence.Judged.{allowed}
use Rattle.wasi_walks.proofs.licence.Line.{ListenGoesOn, Licensed}
use Rattle.wasi_walks.proofs.walks.Steps.{may_while, machine_walks}
use Rattle.wasi_walks.proofs.claims.Lines.{BaseBetween, first_base, base_starts, base_over}
use Rattle.wasi_walks.proofs.remotes.State.{Keeps, first_keeps}
use Rattle.wasi_walks.proofs.walks.Here.{IsToCome}
use Rattle.wasi_walks.proofs.walks.Moves.{Names, Own, ToConnect, ToWrite, Unused, Used}
use Rattle.wasi_records.specs.Records.{tcp2_at}
use Rattle.wasi_steps.specs.declared.guest_call.StreamCall.{StreamCall}

-- Between two lines.
pub record Fine (contexts : List WasiSocketsCtx) (steps : List Step) (line : ℕ) (es : List Entry) (m : Machine) : Type 0 where
  pub base : BaseBetween line m
  pub keeps : Keeps es m.store.records
  pub late : Lates es m
  pub fine : StateIsFine contexts steps es m
  pub listens : (place : ℕ) (r : TcpRecord) (op : Operation) → tcp2_at m.store.records place ≡ Some r → r.listening ≡ Begins op → ListenGoesOn steps es r op
  pub wild : (place : ℕ) (r : TcpRecord) → tcp2_at m.store.records place ≡ Some r → WildIn es r
  pub asked : (x op : OpId) (t : Told) → Has es (entry op (Call.Local x) t) → x.step < line

pub fine_more : (contexts : List WasiSocketsCtx) (steps more : List Step) (line : ℕ) (es : List Entry) (m : Machine) → Fine contexts steps line es m → Fine contexts (steps ++ more) line es m
fine_more contexts steps more line es m i = record {
  base = i.base;
  keeps = i.keeps;
  late = i.late;
  fine = state_more steps more contexts es m i.fine;
  listens = λ place r op g e. (let l = i.listens place r op g e in record { fine = listen_more steps more es op l.fine; asks = l.asks; made = l.made; tcp = tcp_more steps more op.who.side l.tcp });
  wild = i.wild;
  asked = i.asked;
}

pub first_fine : (contexts : List WasiSocketsCtx) → Fine contexts [] 1 [] first_state
first_fine contexts = record {
  base = first_base;
  keeps = first_keeps [];
  late = λ side. first_late side;
  fine = record { count = refl; handles = λ handle kind e. absurd (cc); records = λ place r e. absurd (cc); udp = λ place u e. absurd (cc); lookups = λ place op e. absurd (cc); besides = tt; standing = λ c e. absurd (cc); accepts = λ place r e. absurd (cc); one = λ i j r s x a b c d. absurd (cc) };
  listens = λ place r op e. absurd (cc);
  wild = λ place r e. absurd (cc);
  asked = λ x op t e. absurd e;
}

pub last_line : (steps : List Step) (s : Step) (line : ℕ) → line ≡ length steps + 1 → step_at (steps ++ s ∷ []) line ≡ Some s
last_line steps s line e = subst (λ (n : ℕ). step_at (steps ++ s ∷ []) n ≡ Some s) (sym (e ∙ add-one (length steps))) (get_seam steps s)

pub next_line : (steps : List Step) (s : Step) (line : ℕ) → line ≡ length steps + 1 → line + 1 ≡ length (steps ++ s ∷ []) + 1
next_line steps s line e = let k = length-append steps (s ∷ []) in omega arith

module _ (contexts : List WasiSocketsCtx) where
  -- what is known where a line starts
  starts_licensed : (steps : List Step) (line : ℕ) (s : Step) (m : Machine) (es : List Entry) (o : Own) → IsNew es m.store.records line → Fine contexts steps line es m → Wilds line es (Starts m o) × Licensed contexts steps line s es (Starts m o)
  starts_licensed steps line s m es o n i = (
    record { wild = i.wild; older = λ x op t e. older_unused line o x (i.asked x op t e) },
    record {
      fine = i.fine;
      names = λ k j r a. absurd (cc);
      udp_names = λ k j u a. absurd (cc);
      listens = i.listens;
      new = λ x t. (let s = of_line o x t in (n.handed x s, n.marked x s));
      unmade = λ u is. n.made (own_of line) refl;
      joined = λ face p e. absurd (cc);
      faulted = λ p e. absurd (cc);
      marked = λ a p e. absurd (cc);
      making = tt;
    },
  )
    where
      of_line : (own : Own) (x : OpId) → IsToCome line own x → x.step ≡ line
      of_line Unused x t = t.0
      of_line (Names part) x t = t.0
      of_line Used x t = absurd t
      of_line (ToWrite side bytes) x t = absurd t
      of_line (ToConnect place) x t = absurd t

  pub line_licensed : (steps : List Step) (line : ℕ) (s : Step) → step_at steps line ≡ Some s → (m : Machine) (es : List Entry) → EachMayCome contexts steps [] es → IsNew es m.store.records line → Fine contexts steps line es m
      → Allows (MayAsk contexts steps) (λ fs done. Fine contexts steps (line + 1) fs done.1) es (machine_asks contexts m line s)
  line_licensed steps line s l m es each n i =
      let o = may_while m s m.store.standing in
      allows_weaker (MayAsk contexts steps) _ (λ fs done. Fine contexts steps (line + 1) fs done.1)
      (λ fs done k. record { base = base_over contexts line s done.1 k.0.0.0; keeps = k.0.0.1; late = k.1; fine = k.0.1.1.fine; listens = k.0.1.1.listens; wild = k.0.1.0.wild; asked = λ x op t e. (let old = k.0.1.0.older x op t e in omega (arith, old)) }) es (machine_asks contexts m line s)
      (allows_both (MayAsk contexts steps) Anything _ (λ fs done. Lates fs done.1) es (machine_asks contexts m line s) (allowed contexts steps _ es (machine_asks contexts m line s) each (licence_along contexts steps line s l (machine_walks line s (begins_licence contexts steps line s l) m m.store.standing refl) es
      (base_starts contexts line s m o i.base) i.keeps (starts_licensed steps line s m es (may_while m s m.store.standing) n i))) (lines_later contexts line s m es i.base i.keeps i.late))

  -- == which lines were served
  -- no entry asks for a datagram by the own operation of one of these lines
  abbrev NoMore : List ℕ → List Entry → OpId → Call → Type 0
  NoMore served es op c = (n : ℕ) → Has served n → (side : OpId) → op ≡ own_of n → c ≡ Call.Recv side → ⊥

  no_more_one : (served : List ℕ) (es : List Entry) (op : OpId) (c : Call) (t : Told) → NoMore served es op c → AskNoMore served (entry op c t ∷ [])
  no_more_one served es op c t k n h side told (inl e) = k n h side (ap (λ (x : Entry). x.op) e) (ap (λ (x : Entry). x.call) e)
  no_more_one served es op c t k n h side told (inr i) = i

  -- those that were served are over
  none_served : (steps : List Step) (line : ℕ) (s : Step) (is_line : step_at steps line ≡ Some s) (m : Machine) (es : List Entry) (served : List ℕ) → Serves steps line es m served → (fs : List Entry) (op : OpId) (c : Call) → MayRecv contexts steps line s is_line m.store.beside fs op c → NoMore served fs op c
  none_served steps line s is_line m es served k fs op c asked n h side own is =
      elim (asks_by contexts steps line s is_line m.store.beside fs op c Told.Yes Told.Yes n side asked (inl (same_entry op (own_of n) c (Call.Recv side) own is))) [
        | inl e ↦ (let p = (k.over n h).0 in omega (arith, p, e))
        | inr p ↦ none_some (subst (λ (o : Option Beside). IsSome o) (k.over n h).1 p.1)
      ]
    where
      none_some : IsSome (let o : Option Beside = None in o) → ⊥
      none_some e = cc

      same_entry : (a b : OpId) (x y : Call) → a ≡ b → x ≡ y → entry a x Told.Yes ≡ entry b y Told.Yes
      same_entry a b x y e f = cc

  -- a line may begin to write, and no part is named
  counted_of : (o : Option TcpRecord) (bytes : List ℕ) → IsCounted (may_in o bytes)
  counted_of None bytes = tt
  counted_of (Some r) bytes = of_streams r.streams
    where
      of_writer : (w : WriteState) (bytes : List ℕ) → IsCounted (may_begin w bytes)
      of_writer (WriteState.Ready half permit) [] = tt
      of_writer (WriteState.Ready half permit) (b ∷ bytes) = by_size (nat_lt permit (length (b ∷ bytes)))
        where
          by_size : (over : Bool) → IsCounted (if over then Unused else ToWrite half.side (b ∷ bytes))
          by_size true = tt
          by_size false = tt
      of_writer _ bytes = tt

      of_streams : (s : Option Streams) → IsCounted (may_of s bytes)
      of_streams None = tt
      of_streams (Some s) = of_writer s.writer bytes

  counted_at : (m : Machine) (bytes : List ℕ) (place : Option ℕ) → IsCounted (may_at m bytes place)
  counted_at m bytes None = tt
  counted_at m bytes (Some place) = counted_of (tcp2_at m.store.records place) bytes

  counted : (m : Machine) (s : Step) → IsCounted (may_write m s)
  counted m (Step.Call ctx (GuestCall.Stream (StreamCall.Write output bytes))) = counted_at m bytes (output_at m output)
  counted m (Step.Call ctx (GuestCall.Stream (StreamCall.WriteZeroes output len))) = counted_at m (zeros len) (output_at m output)
  counted m _ = tt

  counted_while : (m : Machine) (s : Step) (standing : Option Standing) → IsCounted (may_while m s standing)
  counted_while m s None = counted m s
  counted_while m s (Some c) = tt

  -- what a line leaves and replies, and who asks
  abbrev After : List Step → ℕ → Step → List ℕ → List Entry → Reply × Machine → Type 0
  After steps line s served fs done = Fine contexts steps (line + 1) fs done.1 × (MayReply steps fs served line s done.0 × Serves steps (line + 1) fs done.1 (serves steps line s done.0 served))

  line_served : (steps : List Step) (line : ℕ) (s : Step) (l : step_at steps line ≡ Some s) (m : Machine) (es : List Entry) (served : List ℕ) → EachMayCome contexts steps [] es → IsNew es m.store.records line → Fine contexts steps line es m → Serves steps line es m served
      → Allows (λ fs op c. MayAsk contexts steps fs op c × MayRecv contexts steps line s l m.store.beside fs op c) (After steps line s served) es (machine_asks contexts m line s)
  line_served steps line s l m es served each n i k =
      let o = may_while m s m.store.standing in
      let R : List Entry → OpId → Call → Type 0 = MayRecv contexts steps line s l m.store.beside in
      allows_weaker (λ fs op c. MayAsk contexts steps fs op c × R fs op c) (λ fs done. Fine contexts steps (line + 1) fs done.1 × Finally contexts steps line s l m es served i.fine k fs done) (After steps line s served)
      (λ fs done q. (q.0, q.1 q.0.fine)) es (machine_asks contexts m line s)
      (allows_each (MayAsk contexts steps) R (λ fs done. Fine contexts steps (line + 1) fs done.1) (Finally contexts steps line s l m es served i.fine k) es (machine_asks contexts m line s)
      (line_licensed steps line s l m es each n i)
      (serves_line contexts steps line m es served i.fine i.keeps i.late i.base.datagrams.besides k s l
      (asked_along contexts steps line s l m.store.beside (machine_walks line s (begins_asked contexts steps line s l m.store.beside) m m.store.standing refl) es
      (base_starts contexts line s m o i.base) i.keeps (starts_licensed steps line s m es o n i) (first_asks contexts steps line s l m es served o (counted_while m s m.store.standing) k))))

  -- == the lines, one after another
  -- What a run of these lines leaves: replies that it may have, and a state that is fine; where it didn't stop, the next line follows.
  record Ends (all : List Step) (fs : List Entry) (done : List Reply × Machine) : Type 0 where
    served : List ℕ
    replied : Replied all fs [] 1 all done.0 served
    line : ℕ
    fine : Fine contexts all line fs done.1
    each : EachMayCome contexts all [] fs
    goes : last_traps done.0 ≡ false → (line ≡ length all + 1) × Serves all line fs done.1 served

  -- each ask is licensed, and none is by one of these lines
  abbrev Asks2 : List Step → List ℕ → List Entry → OpId → Call → Type 0
  Asks2 all first fs op c = MayAsk contexts all fs op c × NoMore first fs op c

  same_length : (replies : List Reply) (before : List Step) (r : Reply) (s : Step) → length replies ≡ length before → length (replies ++ r ∷ []) ≡ length (before ++ s ∷ [])
  same_length replies before r s n = let p = length-append replies (r ∷ []) in let q = length-append before (s ∷ []) in omega (arith, n, p, q)

  -- each line is judged by the steps so far, and what these license the whole script does
  lines : (all : List Step) (first : List ℕ) (replies : List Reply) (m : Machine) (line : ℕ) (before rest : List Step) (es : List Entry) (served : List ℕ) → all ≡ before ++ rest → line ≡ length before + 1 → ((x : ℕ) → Has first x → Has served x) → EachMayCome contexts before [] es → length replies ≡ length before
      → Replied before es [] 1 before replies served → Fine contexts before line es m → Serves before line es m served → Allows (Asks2 all first) (Ends all) es (run contexts replies m line rest)
  lines all first replies m line before [] es served a e f c n r h v =
      subst (λ (steps : List Step). Ends steps es (replies, m)) (sym (a ∙ append-nil before)) (record { served = served; replied = r; line = line; fine = h; each = c; goes = λ q. (e, v) })
  lines all first replies m line before (s ∷ rest) es served a e f c n r h v =
      let now = before ++ s ∷ [] in
      let on : Goes before now = goes_on before (s ∷ []) in
      let b : all ≡ now ++ rest = a ∙ sym (append_assoc before (s ∷ []) rest) in
      let new : IsNew es m.store.records line = subst (IsNew es m.store.records) (sym e) (next_is_new contexts before es (licensed contexts before es c) m h.fine) in
      let M : List Entry → Type 0 = λ fs. EachMayCome contexts now [] fs × Replied now fs [] 1 before replies served in
      let l : step_at now line ≡ Some s = last_line before s line e in
      let R : List Entry → OpId → Call → Type 0 = λ fs op c. MayAsk contexts now fs op c × MayRecv contexts now line s l m.store.beside fs op c in
      let serving : Serves now line es m served = serves_more on line es m served v in
      allows_then (Asks2 all first) (λ fs done. M fs × After now line s served fs done) (Ends all) es (machine_asks contexts m line s) _
      (allows_keep R (Asks2 all first) M (After now line s served)
      (λ fs op c t fits k q. (may_come contexts now fs _ k.0 q.0, replied_more (stay now) fs _ [] 1 before replies served (no_more_one served fs op c t (none_served now line s l m es served serving fs op c q.1)) k.1))
      (λ fs op c q. (subst (λ (steps : List Step). MayAsk contexts steps fs op c) (sym b) (may_more now rest contexts fs op c q.0), λ x i. none_served now line s l m es served serving fs op c q.1 x (f x i)))
      es _ (come_longer contexts before (s ∷ []) [] es c, replied_by on es [] 1 before replies served r)
      (line_served now line s l m es served (come_longer contexts before (s ∷ []) [] es c) new (fine_more contexts before (s ∷ []) line es m h) serving))
      (λ fs done k.
      let said : Replied now fs [] 1 now (replies ++ done.0 ∷ []) (serves now line s done.0 served) = replied_push now fs [] 1 line before replies s done.0 served n (omega (arith, e)) k.0.1 k.1.1.0 in
      allows_if (Asks2 all first) (Ends all) fs (is_trap done.0) _ _
      (λ trap. subst (λ (steps : List Step). Ends steps fs (replies ++ done.0 ∷ [], done.1)) (sym b) (record {
        served = serves now line s done.0 served;
        replied = replied_longer (now ++ rest) fs [] 1 now rest (replies ++ done.0 ∷ []) _ (replied_by (goes_on now rest) fs [] 1 now (replies ++ done.0 ∷ []) _ said);
        line = line + 1;
        fine = fine_more contexts now rest (line + 1) fs done.1 k.1.0;
        each = come_longer contexts now rest [] fs k.0.0;
        goes = λ q. absurd (let p : true ≡ false = sym trap ∙ sym (last_push replies done.0) ∙ q in cc);
      }))
      (λ more. lines all first (replies ++ done.0 ∷ []) done.1 (line + 1) now rest fs (serves now line s done.0 served) b (next_line before s line e) (λ x i. serves_keeps now line s done.0 served x (f x i)) k.0.0 (same_length replies before done.0 s n) said k.1.0 k.1.1.1))

  -- from the beginning
  first_serves : Serves [] 1 [] first_state []
  first_serves = record { parted = λ place u e. absurd (cc); quiet = λ s e. absurd (cc); below = λ n b e. absurd (cc); hands = λ n. tt; over = λ n h. absurd h }

  from_first : (steps : List Step) → Allows (Asks2 steps []) (Ends steps) [] (run contexts [] first_state 1 steps)
  from_first steps = lines steps [] [] first_state 1 [] steps [] [] refl refl (λ x i. i) tt refl refl (first_fine contexts) first_serves

  -- the state that a run leaves
  pub runs_fine : (steps : List Step) (log : List Entry) (replies : List Reply) (m : Machine) → Left (run contexts [] first_state 1 steps) log (Give (replies, m)) → (line : ℕ) × Fine contexts steps line log m
  runs_fine steps log replies m w =
      let k : Ends steps log (replies, m) = reached (Asks2 steps []) (Ends steps) [] (run contexts [] first_state 1 steps) log (Give (replies, m)) (from_first steps) w in
      (k.line, k.fine)

  -- at every point of the run, before a reply is given
  pub begun_licensed : (steps : List Step) (log : List Entry) (rest : Asks (List Reply × Machine)) → Left (run contexts [] first_state 1 steps) log rest → IsLicensed contexts steps log []
  begun_licensed steps log rest w = record {
    each = λ before e after cut.
        (allows_at (Asks2 steps []) (Ends steps) [] (run contexts [] first_state 1 steps) rest before e after
        (from_first steps)
        (subst (λ (es : List Entry). Left (run contexts [] first_state 1 steps) es rest) cut w)).0;
    replied = tt;
  }

  -- what the lines after these asked is by none that they served
  back_is_quiet : (h_steps done more : List Step) (replies : List Reply) (state : Machine) (front back : List Entry) (rest : Asks (List Reply × Machine)) → length replies ≡ length done → Left (run contexts [] first_state 1 done) front (Give (replies, state)) → Left (run contexts [] first_state 1 (done ++ more)) (front ++ back) rest
      → (k : Ends done front (replies, state)) → AskNoMore k.served back
  back_is_quiet all done more replies state front back rest n ran begun k =
      elim (run_splits contexts done more [] first_state 1 front back replies state rest refl ran begun) [
        | inl stops ↦ subst (λ (es : List Entry). AskNoMore k.served es) (sym stops) (none_no_more k.served)
        | inr on ↦ by_going on.0 (k.goes on.1)
      ]
    where
      by_going : GoesOnBy contexts replies state 1 done more back rest → (k.line ≡ length done + 1) × Serves done k.line front state k.served → AskNoMore k.served back
      by_going g v x i side told h =
          let cut = cut_of back _ h in
          let line : g.now ≡ k.line = (let p = g.is in let q = v.0 in omega (arith, p, q)) in
          let left : Left (run contexts replies state k.line more) back rest = subst (λ (y : ℕ). Left (run contexts replies state y more) back rest) line g.left in
          (allows_at (Asks2 (done ++ more) k.served) (Ends (done ++ more)) front (run contexts replies state k.line more) rest cut.front (entry (own_of x) (Call.Recv side) told) cut.back
          (lines (done ++ more) k.served replies state k.line done more front k.served refl v.0 (λ y j. j) k.each n k.replied k.fine v.1)
          (subst (λ (es : List Entry). Left (run contexts replies state k.line more) es rest) cut.is left)).1 x i side refl refl

  -- and with the replies that were given by then
  pub runs_licensed : (steps : List Step) (log : List Entry) (replies : List Reply) → HasRun contexts steps log replies → IsLicensed contexts steps log replies
  runs_licensed steps log replies h =
      let begun : Left (run contexts [] first_state 1 (h.done ++ h.more)) (h.front ++ h.back) h.rest =
      subst (λ (es : List Entry). Left (run contexts [] first_state 1 (h.done ++ h.more)) es h.rest) h.cut (subst (λ (steps : List Step). Left (run contexts [] first_state 1 steps) log h.rest) h.first h.begun) in
      let k : Ends h.done h.front (replies, h.state) = reached (Asks2 h.done []) (Ends h.done) [] (run contexts [] first_state 1 h.done) h.front (Give (replies, h.state)) (from_first h.done) h.ran in
      let quiet : AskNoMore k.served h.back = back_is_quiet steps h.done h.more replies h.state h.front h.back h.rest h.answered h.ran begun k in
      let whole : List Step = h.done ++ h.more in
      let said : Replied whole (h.front ++ h.back) [] 1 h.done replies k.served = replied_more (goes_on h.done h.more) h.front h.back [] 1 h.done replies k.served quiet k.replied in
      let in_log : EachMayReply whole (h.front ++ h.back) [] 1 whole replies = each_may whole (h.front ++ h.back) [] 1 whole replies k.served (replied_longer whole (h.front ++ h.back) [] 1 h.done h.more replies k.served said) in
      with_replies contexts steps log replies (subst (λ (es : List Entry). EachMayReply steps es [] 1 steps replies) (sym h.cut) (subst (λ (all : List Step). EachMayReply all (h.front ++ h.back) [] 1 all replies) (sym h.first) in_log)) (begun_licensed steps log h.rest h.begun)

  -- a run of which each line was answered
  pub whole_licensed : (steps : List Step) (log : List Entry) (replies : List Reply) (m : Machine) → length replies ≡ length steps → Left (run contexts [] first_state 1 steps) log (Give (replies, m)) → IsLicensed contexts steps log replies
  whole_licensed steps log replies m all w =
      runs_licensed steps log replies (record {
        rest = Give (replies, m);
        begun = w;
        done = steps;
        more = [];
        first = sym (append-nil steps);
        answered = all;
        front = log;
        back = [];
        cut = sym (append-nil log);
        state = m;
        ran = w;
      })
