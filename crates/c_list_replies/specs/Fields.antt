-- The fields in which the reply of an expansion goes to C: its number, its place, its counts and numbers, 0 where it has none.
use Rattle.std.specs.Prelude.{get_or}
use Rattle.semantics.specs.Call.{Reply}
use Rattle.c_list_replies.specs.declared.SuhkelvaLists.{SuhkelvaLists}
use Rattle.c_list_replies.specs.declared.SuhkelvaInteractionLists.{SuhkelvaInteractionLists}

unfoldable pub list_fields : Reply → SuhkelvaLists
list_fields r = record {
  number = r.number;
  place = r.place;
  headers = get_or r.counts 0 0;
  variables = get_or r.counts 1 0;
  terms = get_or r.counts 2 0;
}

unfoldable pub interaction_list_fields : Reply → SuhkelvaInteractionLists
interaction_list_fields r = record {
  number = r.number;
  place = r.place;
  headers = get_or r.counts 0 0;
  variables = get_or r.counts 1 0;
  terms = get_or r.counts 2 0;
  denom_headers = get_or r.counts 3 0;
  denom_variables = get_or r.counts 4 0;
  denom_terms = get_or r.counts 5 0;
  num_interactions = get_or r.numbers 0 0;
  max_fields_len = get_or r.numbers 1 0;
}
