use Rattle.std.proofs.Common.{◌≡◌, ◌∙◌, sym, refl, rules, length}
use Rattle.text.proofs.Alone.{record_past, record_none, record_five}
use Rattle.text.proofs.records.read_record.Goals as goal

pub returns-in_default : goal.returns-in_default
returns-in_default c = sym (record_past _ _ _ (rw c.in_default.is at c.get.ensures.lookup.0))

pub returns-in_default-fields_of : goal.returns-in_default-fields_of
returns-in_default-fields_of c =
    let part = rw c.in-Some.is at c.get.ensures.lookup.0 in
    sym (record_none _ _ _ _ _ part c.fields_of.ensures c.in_default-fields_of.is)

pub returns-in_default-number_in : goal.returns-in_default-number_in
returns-in_default-number_in c =
    let five : length c.in-Some-fields_of.fields ≡ 5 = search rules in
    let part = rw c.in-Some.is at c.get.ensures.lookup.0 in
    let known = record_five _ _ _ _ _ c.in-Some-fields_of.fields part c.fields_of.ensures c.in-Some-fields_of.is five in
    rw (
      known,
      sym c.number_in.ensures ∙ c.in_default-number_in.is,
    )
    refl

pub returns-in_default-number_in-2 : goal.returns-in_default-number_in-2
returns-in_default-number_in-2 c =
    let five : length c.in-Some-fields_of.fields ≡ 5 = search rules in
    let part = rw c.in-Some.is at c.get.ensures.lookup.0 in
    let known = record_five _ _ _ _ _ c.in-Some-fields_of.fields part c.fields_of.ensures c.in-Some-fields_of.is five in
    rw (
      known,
      sym c.number_in.ensures ∙ c.in-Some-number_in.is,
      sym c.number_in-2.ensures ∙ c.in_default-number_in-2.is,
    )
    refl

pub returns-in_default-number_in-3 : goal.returns-in_default-number_in-3
returns-in_default-number_in-3 c =
    let five : length c.in-Some-fields_of.fields ≡ 5 = search rules in
    let part = rw c.in-Some.is at c.get.ensures.lookup.0 in
    let known = record_five _ _ _ _ _ c.in-Some-fields_of.fields part c.fields_of.ensures c.in-Some-fields_of.is five in
    rw (
      known,
      sym c.number_in.ensures ∙ c.in-Some-number_in.is,
      sym c.number_in-2.ensures ∙ c.in-Some-number_in-2.is,
      sym c.number_in-3.ensures ∙ c.in_default-number_in-3.is,
    )
    refl

pub returns-in_default-number_in-4 : goal.returns-in_default-number_in-4
returns-in_default-number_in-4 c =
    let five : length c.in-Some-fields_of.fields ≡ 5 = search rules in
    let part = rw c.in-Some.is at c.get.ensures.lookup.0 in
    let known = record_five _ _ _ _ _ c.in-Some-fields_of.fields part c.fields_of.ensures c.in-Some-fields_of.is five in
    rw (
      known,
      sym c.number_in.ensures ∙ c.in-Some-number_in.is,
      sym c.number_in-2.ensures ∙ c.in-Some-number_in-2.is,
      sym c.number_in-3.ensures ∙ c.in-Some-number_in-3.is,
      sym c.number_in-4.ensures ∙ c.in_default-number_in-4.is,
    )
    refl

pub returns-in_default-step_of : goal.returns-in_default-step_of
returns-in_default-step_of c =
    let five : length c.in-Some-fields_of.fields ≡ 5 = search rules in
    let part = rw c.in-Some.is at c.get.ensures.lookup.0 in
    let known = record_five _ _ _ _ _ c.in-Some-fields_of.fields part c.fields_of.ensures c.in-Some-fields_of.is five in
    rw (
      known,
      sym c.number_in.ensures ∙ c.in-Some-number_in.is,
      sym c.number_in-2.ensures ∙ c.in-Some-number_in-2.is,
      sym c.number_in-3.ensures ∙ c.in-Some-number_in-3.is,
      sym c.number_in-4.ensures ∙ c.in-Some-number_in-4.is,
      sym c.step_of.ensures ∙ c.in_default-step_of.is,
    )
    refl

pub returns : goal.returns
returns c =
    let five : length c.in-Some-fields_of.fields ≡ 5 = search rules in
    let part = rw c.in-Some.is at c.get.ensures.lookup.0 in
    let known = record_five _ _ _ _ _ c.in-Some-fields_of.fields part c.fields_of.ensures c.in-Some-fields_of.is five in
    rw (
      known,
      sym c.number_in.ensures ∙ c.in-Some-number_in.is,
      sym c.number_in-2.ensures ∙ c.in-Some-number_in-2.is,
      sym c.number_in-3.ensures ∙ c.in-Some-number_in-3.is,
      sym c.number_in-4.ensures ∙ c.in-Some-number_in-4.is,
      sym c.step_of.ensures ∙ c.in-Some-step_of.is,
    )
    refl
