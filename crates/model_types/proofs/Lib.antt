mod GrowthLemmas
mod KindLemmas
mod NameLists
mod NumberingLemmas
mod SpanLemmas
mod TeeLemmas
mod TestLemmas
