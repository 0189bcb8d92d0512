-- The facts of a log that grows.
use Rattle.std.proofs.Common.{◌≡◌, ◌≢◌, refl, sym, ap, ◌∙◌, ℕ, Bool, true, false, cond, ◌||◌, List, [], ◌∷◌, ◌++◌, append_assoc, append-nil, nat_eq, eqb-true, ◌+◌, ◌<◌, length, take, get_or, not, arith}
use Rattle.std.specs.List.{AllByRecursion, IsDistinct}
use Rattle.std.proofs.lemmas.List.{take_more}
use Rattle.hk_chain.specs.Facts.{FactsView, TraceMark, save}
use Rattle.hk_chain.specs.Snapshots.{Ascending}
use Rattle.hk_fix.specs.Facts.{is_in, firsts, group_first, trace_of, facts_of}
use Rattle.hk_fix.specs.Task.{Mark, asked, note, used, saved}
use Rattle.hk_fix.specs.ChainLaws.{saved_pairs}
use Rattle.hk_fix.specs.Run.{asks_of, patterns_of}
use Rattle.hk_fix.proofs.Firsts.{SameMembers, firsts-same, firsts-append, in-firsts, firsts-more}
use Rattle.hk_fix.proofs.Trails.{in-append}
use Rattle.hk_eval.specs.Noted.{no_facts, with_group, with_pattern, with_save, note_mark, noted}

swap-members : (a b c : List ℕ) → SameMembers b c → SameMembers (a ++ b) (a ++ c)
swap-members a b c h = λ q. in-append a b q ∙ (ap (λ t. is_in a q || t) (h q) ∙ sym (in-append a c q))

after-group : (f : FactsView) (seen ps : List ℕ) → SameMembers seen f.asks → SameMembers (ps ++ seen) (f.asks ++ firsts f.asks ps)
after-group f seen ps h = λ q. swap-members ps seen f.asks h q ∙ sym (in-firsts f.asks ps q)

noted-asks : (f : FactsView) (seen : List ℕ) (log : List Mark) → SameMembers seen f.asks → (noted f log).asks ≡ f.asks ++ firsts seen (asks_of log)
noted-asks f seen [] h = sym (append-nil f.asks)
noted-asks f seen (asked ps ∷ log) h =
    noted-asks (with_group f ps) (ps ++ seen) log (after-group f seen ps h)
    ∙ (append_assoc f.asks (firsts f.asks ps) (firsts (ps ++ seen) (asks_of log)) ∙ ap (λ l. f.asks ++ l) (ap (λ l. l ++ firsts (ps ++ seen) (asks_of log)) (firsts-same f.asks seen ps (λ q. sym (h q))) ∙ sym (firsts-append seen ps (asks_of log))))
noted-asks f seen (note (used n) ∷ log) h = noted-asks (with_pattern f n) seen log h
noted-asks f seen (note (saved p x) ∷ log) h = noted-asks (with_save f p) seen log h

noted-patterns : (f : FactsView) (seen : List ℕ) (log : List Mark) → SameMembers seen f.patterns → (noted f log).patterns ≡ f.patterns ++ firsts seen (patterns_of log)
noted-patterns f seen [] h = sym (append-nil f.patterns)
noted-patterns f seen (asked ps ∷ log) h = noted-patterns (with_group f ps) seen log h
noted-patterns f seen (note (used n) ∷ log) h =
    noted-patterns (with_pattern f n) ((n ∷ []) ++ seen) log (λ q. swap-members (n ∷ []) seen f.patterns h q ∙ sym (in-firsts f.patterns (n ∷ []) q))
    ∙ (append_assoc f.patterns (firsts f.patterns (n ∷ [])) (firsts ((n ∷ []) ++ seen) (patterns_of log)) ∙ ap (λ l. f.patterns ++ l) (ap (λ l. l ++ firsts ((n ∷ []) ++ seen) (patterns_of log)) (firsts-same f.patterns seen (n ∷ []) (λ q. sym (h q))) ∙ sym (firsts-append seen (n ∷ []) (patterns_of log))))
noted-patterns f seen (note (saved p x) ∷ log) h = noted-patterns (with_save f p) seen log h

-- no save of these pairs stands in a log, and none stands twice
abbrev pub FreshSaves : List ℕ → List Mark → Type 0
FreshSaves kept [] = Unit {0}
FreshSaves kept (asked ps ∷ log) = FreshSaves kept log
FreshSaves kept (note (used n) ∷ log) = FreshSaves kept log
FreshSaves kept (note (saved p x) ∷ log) = (is_in kept p ≡ false) × FreshSaves (p ∷ kept) log

group-first : (ps : List ℕ) (rest : List TraceMark) → group_first ps rest ≡ group_first ps [] ++ rest
group-first [] rest = refl
group-first (p ∷ ps) rest = refl

noted-trace : (f : FactsView) (seen kept : List ℕ) (log : List Mark) → SameMembers seen f.asks → FreshSaves kept log → (noted f log).trace ≡ f.trace ++ trace_of seen kept log
noted-trace f seen kept [] h fresh = sym (append-nil f.trace)
noted-trace f seen kept (asked ps ∷ log) h fresh =
    noted-trace (with_group f ps) (ps ++ seen) kept log (after-group f seen ps h) fresh
    ∙ (append_assoc f.trace (group_first (firsts f.asks ps) []) (trace_of (ps ++ seen) kept log) ∙ ap (λ l. f.trace ++ l) (ap (λ l. group_first l [] ++ trace_of (ps ++ seen) kept log) (firsts-same f.asks seen ps (λ q. sym (h q))) ∙ sym (group-first (firsts seen ps) (trace_of (ps ++ seen) kept log))))
noted-trace f seen kept (note (used n) ∷ log) h fresh = noted-trace (with_pattern f n) seen kept log h fresh
noted-trace f seen kept (note (saved p x) ∷ log) h fresh =
    noted-trace (with_save f p) seen (p ∷ kept) log h fresh.1
    ∙ (append_assoc f.trace (save p ∷ []) (trace_of seen (p ∷ kept) log) ∙ ap (λ b. f.trace ++ cond b (trace_of seen kept log) (save p ∷ trace_of seen (p ∷ kept) log)) (sym fresh.0))

pub noted-facts : (log : List Mark) → FreshSaves [] log → noted no_facts log ≡ facts_of log
noted-facts log fresh =
    let a = noted-asks no_facts [] log (λ q. refl) in
    let b = noted-patterns no_facts [] log (λ q. refl) in
    let t = noted-trace no_facts [] [] log (λ q. refl) fresh in
    λ i. record { asks = a i; patterns = b i; trace = t i }

pub noted-append : (f : FactsView) (a b : List Mark) → noted f (a ++ b) ≡ noted (noted f a) b
noted-append f [] b = refl
noted-append f (m ∷ a) b = noted-append (note_mark f m) a b

-- one more pair of a loop
pub add-turn : (start now later ps : List ℕ) (i p : ℕ) (fresh more : List ℕ) (b : Bool) → i < length ps → p ≡ get_or ps i p → fresh ≡ firsts start (take i ps) → now ≡ start ++ firsts start (take i ps) → b ≡ not (is_in now p) → later ≡ now ++ firsts now (p ∷ []) → more ≡ cond b (fresh ++ p ∷ []) fresh → (more ≡ firsts start (take (i + 1) ps)) × (later ≡ start ++ firsts start (take (i + 1) ps))
add-turn start now later ps i p fresh more b lt at was so_far is put pushed =
    let next : take (i + 1) ps ≡ take i ps ++ p ∷ [] = take_more ps i p lt ∙ ap (λ x. take i ps ++ x ∷ []) (sym at) in
    let all : firsts start (take (i + 1) ps) ≡ firsts start (take i ps) ++ firsts now (p ∷ []) = ap (firsts start) next ∙ (firsts-more start (take i ps) p ∙ ap (λ s. firsts start (take i ps) ++ firsts s (p ∷ [])) (sym so_far)) in
    (pushed ∙ (ap (λ t. cond t (fresh ++ p ∷ []) fresh) is ∙ (either (is_in now p) fresh ∙ (ap (λ l. l ++ firsts now (p ∷ [])) was ∙ sym all))), put ∙ (ap (λ l. l ++ firsts now (p ∷ [])) so_far ∙ (append_assoc start (firsts start (take i ps)) (firsts now (p ∷ [])) ∙ ap (λ l. start ++ l) (sym all))))
  where
    either : (t : Bool) (l : List ℕ) → cond (not t) (l ++ p ∷ []) l ≡ l ++ cond t [] (p ∷ [])
    either true l = sym (append-nil l)
    either false l = refl

-- saves that differ, of pairs that nothing is kept for, are fresh
pub fresh-all : (kept : List ℕ) (log : List Mark) → IsDistinct nat_eq (saved_pairs log) → AllByRecursion (λ p. is_in kept p ≡ false) (saved_pairs log) → FreshSaves kept log
unfolding IsDistinct
fresh-all kept [] d h = tt
fresh-all kept (asked ps ∷ log) d h = fresh-all kept log d h
fresh-all kept (note (used n) ∷ log) d h = fresh-all kept log d h
fresh-all kept (note (saved p x) ∷ log) d h = (h.0, fresh-all (p ∷ kept) log d.1 (both (saved_pairs log) d.0 h.1))
  where
    both : (qs : List ℕ) → AllByRecursion (λ q. nat_eq p q ≡ false) qs → AllByRecursion (λ q. is_in kept q ≡ false) qs → AllByRecursion (λ q. is_in (p ∷ kept) q ≡ false) qs
    both [] a b = tt
    both (q ∷ qs) a b = (or-both (nat_eq q p) (is_in kept q) (flip a.0) b.0, both qs a.1 b.1)
      where
        flip : nat_eq p q ≡ false → nat_eq q p ≡ false
        flip e = grind (arith, e)

        or-both : (s t : Bool) → s ≡ false → t ≡ false → (s || t) ≡ false
        or-both true t a b = cc
        or-both false t a b = b

-- ascending numbers and one more that is none of them differ
pub apart-rising : (ps : List ℕ) (last : ℕ) → Ascending ps → AllByRecursion (λ p. p ≢ last) ps → IsDistinct nat_eq (ps ++ last ∷ [])
unfolding IsDistinct
apart-rising [] last a h = (tt, tt)
apart-rising (p ∷ ps) last a h = (others ps a.0 h.0, apart-rising ps last a.1 h.1)
  where
    others : (qs : List ℕ) → AllByRecursion (λ q. p < q) qs → p ≢ last → AllByRecursion (λ q. nat_eq p q ≡ false) (qs ++ last ∷ [])
    others [] b ne = (grind (arith, ne), tt)
    others (q ∷ qs) b ne = (below q b.0, others qs b.1 ne)
      where
        below : (r : ℕ) → p < r → nat_eq p r ≡ false
        below r lt = grind (arith, lt)
