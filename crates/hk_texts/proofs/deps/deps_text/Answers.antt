use Rattle.std.proofs.Common.{rules, ◌≡◌, ◌∙◌, ap, sym, List, ℕ, ◌++◌, map, append_assoc, add-one}
use Rattle.hk_base.specs.Bytes.{Bytes}
use Rattle.hk_fix.specs.Outcomes.{outcome_view}
use Rattle.hk_rules.specs.Plan.{lookups}
use Rattle.hk_texts.specs.DepsText.{first_lines}
use Rattle.hk_texts.proofs.deps.deps_text.Goals as goal

-- three texts, one after the other
three-written : (old first second new before item line used : Bytes) → first ≡ old ++ item → second ≡ first ++ line → new ≡ second ++ used → old ≡ before → new ≡ before ++ (item ++ (line ++ used))
three-written old first second new before item line used i l u so =
    u ∙ ap (λ t. t ++ used) (l ∙ ap (λ t. t ++ line) (i ∙ ap (λ t. t ++ item) so)) ∙ append_assoc (before ++ item) line used ∙ append_assoc before item (line ++ used)

pub loop-number-preserved : goal.loop-number-preserved
loop-number-preserved c =
    record {
      few = search rules;
      text =
          three-written c.loop-number.out.items _ _ c.write_used.new.out.items _ _ _ _ c.in_ok-write_item.ensures c.in_ok-append.ensures c.in_ok-write_used.ensures c.loop-number.invariant.text
          ∙ sym (ap (first_lines (lookups c.args.plan.now) (map outcome_view c.args.outcomes.now)) (add-one c.loop-number.number));
    }
