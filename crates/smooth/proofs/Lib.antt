mod Input
mod Printed
mod Program
