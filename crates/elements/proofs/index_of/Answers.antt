use Rattle.elements.proofs.Indices.{upper_low, upper_past, index_one, index_two, index_odd, index_none}
use Rattle.elements.proofs.index_of.Goals as goal

pub overflow_sub-result : goal.overflow_sub-result
overflow_sub-result c = search upper_low

pub returns-then-a-eq32 : goal.returns-then-a-eq32
returns-then-a-eq32 c = search index_one

pub overflow_sub-result-then-is_upper-2 : goal.overflow_sub-result-then-is_upper-2
overflow_sub-result-then-is_upper-2 c = search upper_past

pub overflow_sub-result-then-is_upper-2-2 : goal.overflow_sub-result-then-is_upper-2-2
overflow_sub-result-then-is_upper-2-2 c = search upper_low

pub returns-then-is_upper-2 : goal.returns-then-is_upper-2
returns-then-is_upper-2 c = search index_two

pub returns-then-is_upper : goal.returns-then-is_upper
returns-then-is_upper c = search index_odd

pub returns : goal.returns
returns c = search index_none
